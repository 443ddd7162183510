use Rattle.std.proofs.Common.{◌≡◌, true, refl, ◌∙◌, arith}
use Rattle.eleos_base.specs.Plain.{is_good_size}
use Rattle.eleos_core.proofs.SubPages.{good_size}
use Rattle.eleos_alloc.proofs.Calling.{can_stamp_alloc, done_alloc, has_room, may_refuse_alloc, refused_alloc, searched, small}
use Rattle.eleos_alloc.proofs.calls.alloc_in.Goals as goal

pub stamp-requires-clause-may : goal.stamp-requires-clause-may
stamp-requires-clause-may g c =
    let n = c.args.bytes in
    let some = c.requires.some in
    let good : is_good_size n ≡ true = good_size n (λ none. omega arith) c.requires.most in
    let none = searched c.args.m.now c.args.enclave c.args.pass.now c.args.blocks.now c.plan-plan.ensures.made c.requires.can n some good
    c.plan-plan.result.now c.subs_of.result c.div_ceil-len.result c.lowest_run.result c.plan-plan.ensures.plan c.subs_of.ensures c.div_ceil-len.ensures c.lowest_run.ensures ∙ c.in_default.is in
    may_refuse_alloc c.args.m.now c.args.enclave c.args.pass.now c.args.blocks.now c.plan-plan.ensures.made c.requires.can n some good none c.set.new.self c.set.ensures

pub returns-in_default-clause-one : goal.returns-in_default-clause-one
returns-in_default-clause-one g c =
    let n = c.args.bytes in
    let some = c.requires.some in
    let good : is_good_size n ≡ true = good_size n (λ none. omega arith) c.requires.most in
    let none = searched c.args.m.now c.args.enclave c.args.pass.now c.args.blocks.now c.plan-plan.ensures.made c.requires.can n some good
    c.plan-plan.result.now c.subs_of.result c.div_ceil-len.result c.lowest_run.result c.plan-plan.ensures.plan c.subs_of.ensures c.div_ceil-len.ensures c.lowest_run.ensures ∙ c.in_default.is in
    (refused_alloc c.args.m.now c.args.enclave c.args.pass.now c.args.blocks.now c.plan-plan.ensures.made c.requires.can n some good none c.set.new.self c.stamp.new.pass c.stamp.result c.set.ensures c.stamp.ensures.stamped).0

pub returns-in_default-clause-blocks : goal.returns-in_default-clause-blocks
returns-in_default-clause-blocks g c =
    let n = c.args.bytes in
    let some = c.requires.some in
    let good : is_good_size n ≡ true = good_size n (λ none. omega arith) c.requires.most in
    let none = searched c.args.m.now c.args.enclave c.args.pass.now c.args.blocks.now c.plan-plan.ensures.made c.requires.can n some good
    c.plan-plan.result.now c.subs_of.result c.div_ceil-len.result c.lowest_run.result c.plan-plan.ensures.plan c.subs_of.ensures c.div_ceil-len.ensures c.lowest_run.ensures ∙ c.in_default.is in
    (refused_alloc c.args.m.now c.args.enclave c.args.pass.now c.args.blocks.now c.plan-plan.ensures.made c.requires.can n some good none c.set.new.self c.stamp.new.pass c.stamp.result c.set.ensures c.stamp.ensures.stamped).1

pub overflow_mul-at : goal.overflow_mul-at
overflow_mul-at g c =
    let n = c.args.bytes in
    let some = c.requires.some in
    let good : is_good_size n ≡ true = good_size n (λ none. omega arith) c.requires.most in
    let found = searched c.args.m.now c.args.enclave c.args.pass.now c.args.blocks.now c.plan-plan.ensures.made c.requires.can n some good
    c.plan-plan.result.now c.subs_of.result c.div_ceil-len.result c.lowest_run.result c.plan-plan.ensures.plan c.subs_of.ensures c.div_ceil-len.ensures c.lowest_run.ensures ∙ c.in-Some.is in
    let fits = small c.args.m.now c.args.enclave c.args.pass.now c.args.blocks.now c.plan-plan.ensures.made c.requires.can n some good c.in-Some.start found
    c.plan-plan.result.now _ c.div_ceil-len.result c.who.result c.plan-plan.ensures.plan refl c.div_ceil-len.ensures c.who.ensures in
    omega arith

pub overflow_add-run : goal.overflow_add-run
overflow_add-run g c =
    let n = c.args.bytes in
    let some = c.requires.some in
    let good : is_good_size n ≡ true = good_size n (λ none. omega arith) c.requires.most in
    let found = searched c.args.m.now c.args.enclave c.args.pass.now c.args.blocks.now c.plan-plan.ensures.made c.requires.can n some good
    c.plan-plan.result.now c.subs_of.result c.div_ceil-len.result c.lowest_run.result c.plan-plan.ensures.plan c.subs_of.ensures c.div_ceil-len.ensures c.lowest_run.ensures ∙ c.in-Some.is in
    let fits = small c.args.m.now c.args.enclave c.args.pass.now c.args.blocks.now c.plan-plan.ensures.made c.requires.can n some good c.in-Some.start found
    c.plan-plan.result.now c.first_sub.result c.div_ceil-len.result c.who.result c.plan-plan.ensures.plan c.first_sub.ensures c.div_ceil-len.ensures c.who.ensures in
    omega arith

pub stamp_with_pages-requires-clause-can : goal.stamp_with_pages-requires-clause-can
stamp_with_pages-requires-clause-can g c =
    let n = c.args.bytes in
    let some = c.requires.some in
    let good : is_good_size n ≡ true = good_size n (λ none. omega arith) c.requires.most in
    let found = searched c.args.m.now c.args.enclave c.args.pass.now c.args.blocks.now c.plan-plan.ensures.made c.requires.can n some good
    c.plan-plan.result.now c.subs_of.result c.div_ceil-len.result c.lowest_run.result c.plan-plan.ensures.plan c.subs_of.ensures c.div_ceil-len.ensures c.lowest_run.ensures ∙ c.in-Some.is in
    can_stamp_alloc c.args.m.now c.args.enclave c.args.pass.now c.args.blocks.now c.plan-plan.ensures.made c.requires.can n some good c.in-Some.start found
    c.plan-plan.result.now c.first_sub.result c.div_ceil-len.result c.who.result c.plan-plan.ensures.plan c.first_sub.ensures c.div_ceil-len.ensures c.who.ensures
    c.set-2.new.self c.first_page.result c.set-2.ensures c.first_page.ensures

pub add-requires : goal.add-requires
add-requires g c =
    let n = c.args.bytes in
    let some = c.requires.some in
    let good : is_good_size n ≡ true = good_size n (λ none. omega arith) c.requires.most in
    let found = searched c.args.m.now c.args.enclave c.args.pass.now c.args.blocks.now c.plan-plan.ensures.made c.requires.can n some good
    c.plan-plan.result.now c.subs_of.result c.div_ceil-len.result c.lowest_run.result c.plan-plan.ensures.plan c.subs_of.ensures c.div_ceil-len.ensures c.lowest_run.ensures ∙ c.in-Some.is in
    record {
      room = has_room c.args.m.now c.args.enclave c.args.pass.now c.args.blocks.now c.plan-plan.ensures.made c.requires.can n some good c.in-Some.start found
          c.plan-plan.result.now c.first_sub.result c.div_ceil-len.result c.who.result c.plan-plan.ensures.plan c.first_sub.ensures c.div_ceil-len.ensures c.who.ensures;
    }

pub returns-clause-one : goal.returns-clause-one
returns-clause-one g c =
    let n = c.args.bytes in
    let some = c.requires.some in
    let good : is_good_size n ≡ true = good_size n (λ none. omega arith) c.requires.most in
    let found = searched c.args.m.now c.args.enclave c.args.pass.now c.args.blocks.now c.plan-plan.ensures.made c.requires.can n some good
    c.plan-plan.result.now c.subs_of.result c.div_ceil-len.result c.lowest_run.result c.plan-plan.ensures.plan c.subs_of.ensures c.div_ceil-len.ensures c.lowest_run.ensures ∙ c.in-Some.is in
    (done_alloc c.args.m.now c.args.enclave c.args.pass.now c.args.blocks.now c.plan-plan.ensures.made c.requires.can n some good c.in-Some.start found
    c.plan-plan.result.now c.first_sub.result c.div_ceil-len.result c.who.result c.plan-plan.ensures.plan c.first_sub.ensures c.div_ceil-len.ensures c.who.ensures
    c.set-2.new.self c.stamp_with_pages.new.pass c.add.new.self c.set-2.ensures c.stamp_with_pages.ensures c.add.ensures).0

pub returns-clause-blocks : goal.returns-clause-blocks
returns-clause-blocks g c =
    let n = c.args.bytes in
    let some = c.requires.some in
    let good : is_good_size n ≡ true = good_size n (λ none. omega arith) c.requires.most in
    let found = searched c.args.m.now c.args.enclave c.args.pass.now c.args.blocks.now c.plan-plan.ensures.made c.requires.can n some good
    c.plan-plan.result.now c.subs_of.result c.div_ceil-len.result c.lowest_run.result c.plan-plan.ensures.plan c.subs_of.ensures c.div_ceil-len.ensures c.lowest_run.ensures ∙ c.in-Some.is in
    (done_alloc c.args.m.now c.args.enclave c.args.pass.now c.args.blocks.now c.plan-plan.ensures.made c.requires.can n some good c.in-Some.start found
    c.plan-plan.result.now c.first_sub.result c.div_ceil-len.result c.who.result c.plan-plan.ensures.plan c.first_sub.ensures c.div_ceil-len.ensures c.who.ensures
    c.set-2.new.self c.stamp_with_pages.new.pass c.add.new.self c.set-2.ensures c.stamp_with_pages.ensures c.add.ensures).1
