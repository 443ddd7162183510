use Rattle.ring_tests.proofs.posts.+fill.Given as goal

abbrev pub decreases-fill : goal.decreases-fill
decreases-fill g args = args.more
