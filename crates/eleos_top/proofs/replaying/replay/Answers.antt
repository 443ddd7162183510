use Rattle.std.proofs.Common.{◌≡◌, ℕ, List, sym, subst, ap, ◌∙◌, arith, length, Option, option_map, take, take_all, get_or}
use Rattle.std.proofs.lemmas.List.{take_more}
use Rattle.eleos_core.proofs.Runs.{runs-plain}
use Rattle.eleos_core.specs.Seals.{seals_by}
use Rattle.eleos_host.specs.Stores.{Store, with_room}
use Rattle.eleos_top.specs.Replays.{IsLogOver}
use Rattle.eleos_top.specs.Scenes.{opening_of}
use Rattle.eleos_top.specs.Sessions.{AlwaysGoesOn, Answered}
use Rattle.eleos_top.proofs.LinesSaid.{log_of_all, replayed_more}
use Rattle.eleos_top.proofs.replaying.replay.Goals as goal

pub loop-line-preserved : goal.loop-line-preserved
loop-line-preserved g c =
    let within = rw c.as_slice-line-items.ensures at c.loop-line-test.true in
    let item : get_or c.args.trace.now.lines c.loop-line.line-index c.line-item.result ≡ c.line-item.result = rw c.as_slice-line-items.ensures at (sym c.line-item.is) in
    record {
      replayed = rw (take_more c.args.trace.now.lines c.loop-line.line-index c.line-item.result within, item)
          (replayed_more c.args.trace.now.plan (seals_by c.args.trace.now.key) (g.P.HostStore.store c.make_room.new.self) (opening_of c.args.trace.now) (take c.loop-line.line-index c.args.trace.now.lines) c.line-item.result c.in_ok-answer.answer
          (g.P.HostStore.store c.loop-line.host) (g.P.HostStore.store c.answer.new.host) c.loop-line.session c.answer.new.self c.loop-line.text.items c.push_answered.new.out.items
          c.loop-line.invariant.replayed
          (subst (λ (key : List ℕ). AlwaysGoesOn c.args.trace.now.plan (seals_by key) (Answered c.args.trace.now.plan (seals_by key) c.line-item.result) c.in_ok-answer.answer
          (g.P.HostStore.store c.loop-line.host) (g.P.HostStore.store c.answer.new.host) c.loop-line.session c.answer.new.self) c.loop-line.invariant.sealer c.in_ok-answer.ensures.answered) c.in_ok-push_answered.ensures);
      sealer = c.answer.ensures.sealer ∙ c.loop-line.invariant.sealer;
      stamps = omega arith;
    }

pub returns : goal.returns
returns g c =
    let all : take c.loop-line.line-index c.args.trace.now.lines ≡ c.args.trace.now.lines = take_all c.loop-line.line-index c.args.trace.now.lines (omega (arith, ap length c.as_slice-line-items.ensures)) in
    subst (λ (told : Option Store). IsLogOver told (g.P.HostStore.store c.loop-line.host) c.args.trace.now c.push_end.new.out.items)
    (c.in_ok-make_room.ensures.ok ∙ ap (λ n. option_map (with_room n) (g.P.HostStore.store c.args.host.now)) c.places.ensures)
    (log_of_all c.args.trace.now (g.P.HostStore.store c.make_room.new.self) (g.P.HostStore.store c.loop-line.host) c.loop-line.session c.loop-line.text.items c.push_end.new.out.items c.requires.good runs-plain
    (rw all at c.loop-line.invariant.replayed) (rw c.stamps.ensures at c.in_ok-push_end.ensures))
