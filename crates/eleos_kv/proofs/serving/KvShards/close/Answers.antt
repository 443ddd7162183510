use Rattle.std.proofs.Common.{◌≡◌, ℕ, ◌+◌, ◌≤◌, List, [], ◌∷◌, ◌++◌, length, None, sym, ap, ◌∙◌, subst, arith, length-append, append_assoc}
use Rattle.eleos_machine.specs.Closing.{AllOfMachine, HasClosed, close_fault}
use Rattle.eleos_machine.specs.Passes.{PassState}
use Rattle.eleos_turn.specs.Hands.{fresh}
use Rattle.eleos_kv.specs.Ends.{AreCells, HasEnded, passes_in}
use Rattle.eleos_kv.specs.Serving.{IsKv, KvState}
use Rattle.eleos_kv.proofs.Backs.{back_closes, back_home, back_made, fit}
use Rattle.eleos_kv.proofs.Private.{ended_one_map}
use Rattle.eleos_kv.proofs.serving.KvShards.close.Goals as goal

-- all passes, in the order of their numbers
joined : (xs own some all : List PassState) (swapper balloon : PassState) → own ≡ xs → some ≡ own ++ swapper ∷ [] → all ≡ some ++ balloon ∷ [] → all ≡ xs ++ swapper ∷ balloon ∷ []
joined xs own some all swapper balloon a b c = c ∙ (ap (λ (z : List PassState). z ++ balloon ∷ []) (b ∙ ap (λ (z : List PassState). z ++ swapper ∷ []) a) ∙ append_assoc xs (swapper ∷ []) (balloon ∷ []))

-- a pass that was never used, at the machine by its other name
unused_at : (s z : KvState) (n : ℕ) (pass : PassState) → s ≡ z → pass.hand ≡ fresh z.machine (length z.all.base.opening + n) → pass.hand ≡ fresh s.machine (length s.all.base.opening + n)
unused_at s z n pass e h = subst (λ (q : KvState). pass.hand ≡ fresh q.machine (length q.all.base.opening + n)) (sym e) h

pub closed-pass-requires-clause-own : goal.closed-pass-requires-clause-own
closed-pass-requires-clause-own g c = let s : KvState = record { machine = c.self.inside.machine; all = c.self.inside.all } in let k = c.in-Ok.ensures in let xs = c.in-Ok.field-0.cells.items in
    let all = joined (passes_in xs) c.passes_back-own_passes.result.items c.with_pass-some_passes.result.items c.with_pass-all_passes.result.items c.args.swapper c.args.balloon c.passes_back-own_passes.ensures.passes c.with_pass-some_passes.ensures.passes c.with_pass-all_passes.ensures.passes in
    subst (AllOfMachine s.machine) (sym all) (back_home g.P.HostPort.gave g.P.HostPort.took s c.in-Ok.field-0.hand c.self.invariant.0 k.home k.sound xs k.count k.cells c.passes_back-own_passes.ensures.cells c.args.swapper c.args.balloon
    (unused_at s c.args.self 1 c.args.swapper c.self.view_is c.requires.swapper) (unused_at s c.args.self 2 c.args.balloon c.self.view_is c.requires.balloon))

pub closed-pass-requires-clause-no_fault : goal.closed-pass-requires-clause-no_fault
closed-pass-requires-clause-no_fault g c = let s : KvState = record { machine = c.self.inside.machine; all = c.self.inside.all } in let k = c.in-Ok.ensures in let xs = c.in-Ok.field-0.cells.items in
    let all = joined (passes_in xs) c.passes_back-own_passes.result.items c.with_pass-some_passes.result.items c.with_pass-all_passes.result.items c.args.swapper c.args.balloon c.passes_back-own_passes.ensures.passes c.with_pass-some_passes.ensures.passes c.with_pass-all_passes.ensures.passes in
    subst (λ (ss : List PassState). close_fault s.machine.base.hands ss ≡ None) (sym all) (back_closes g.P.HostPort.gave g.P.HostPort.took s c.in-Ok.field-0.hand c.self.invariant.0 k.home k.sound xs k.count k.cells c.passes_back-own_passes.ensures.cells c.args.swapper c.args.balloon
    (unused_at s c.args.self 1 c.args.swapper c.self.view_is c.requires.swapper) (unused_at s c.args.self 2 c.args.balloon c.self.view_is c.requires.balloon) s.machine.base.hands
    (subst (λ (q : KvState). q.machine.base.hands ≡ length q.all.base.opening + 2) (sym c.self.view_is) c.requires.passes))

pub with_pass-some_passes-requires : goal.with_pass-some_passes-requires
with_pass-some_passes-requires g c = let k = c.in-Ok.ensures in let a = fit c.in-Ok.field-0.cells.items in let b = ap length c.passes_back-own_passes.ensures.passes in let room = c.passes_back-own_passes.ensures.room in
    let n = ap (λ (q : KvState). length q.all.base.opening) c.self.view_is in let all = c.requires.room in let count = k.count in omega (arith, a, b, room, n, all, count)

pub with_pass-all_passes-requires : goal.with_pass-all_passes-requires
with_pass-all_passes-requires g c = let k = c.in-Ok.ensures in let a = fit c.in-Ok.field-0.cells.items in let b = ap length c.passes_back-own_passes.ensures.passes in let room = c.passes_back-own_passes.ensures.room in
    let n = ap (λ (q : KvState). length q.all.base.opening) c.self.view_is in let all = c.requires.room in let count = k.count in
    let d = ap length c.with_pass-some_passes.ensures.passes in let e = length-append c.passes_back-own_passes.result.items (c.args.swapper ∷ []) in let more = c.with_pass-some_passes.ensures.room in omega (arith, a, b, room, n, all, count, d, e, more)

pub returns-clause-ended : goal.returns-clause-ended
returns-clause-ended g c = let s : KvState = record { machine = c.self.inside.machine; all = c.self.inside.all } in let k = c.in-Ok.ensures in let xs = c.in-Ok.field-0.cells.items in
    let all = joined (passes_in xs) c.passes_back-own_passes.result.items c.with_pass-some_passes.result.items c.with_pass-all_passes.result.items c.args.swapper c.args.balloon c.passes_back-own_passes.ensures.passes c.with_pass-some_passes.ensures.passes c.with_pass-all_passes.ensures.passes in
    let closed = subst (λ (ss : List PassState). HasClosed s.machine ss c.closed-pass.result) all c.closed-pass.ensures in
    let made = back_made g.P.HostPort.gave g.P.HostPort.took s c.in-Ok.field-0.hand c.self.invariant.0 k.home k.sound xs k.count k.cells c.passes_back-own_passes.ensures.cells c.args.swapper c.args.balloon
    (unused_at s c.args.self 1 c.args.swapper c.self.view_is c.requires.swapper) (unused_at s c.args.self 2 c.args.balloon c.self.view_is c.requires.balloon) c.closed-pass.result.hand.seen closed.own closed.begins in
    subst (λ (z : KvState). HasEnded g.P.HostPort.gave g.P.HostPort.took z c.args.hands.items c.closed-pass.result c.in-Ok.field-0.hand) c.self.view_is (record {
      home = k.home;
      whole = k.number;
      sound = k.sound;
      begins = k.begins;
      own = k.own;
      machine = closed.home;
      closed = closed.number;
      lawful = closed.lawful;
      calls = λ i at. (made i at).calls;
      only_calls = λ i at. (made i at).only_calls;
      exchanged = λ i at. (made i at).exchanged;
    })

pub returns-clause-one_map : goal.returns-clause-one_map
returns-clause-one_map g c = ended_one_map c.reads_are_private.ensures.private g.P.HostPort.gave g.P.HostPort.took c.args.self c.args.hands.items c.closed-pass.result c.in-Ok.field-0.hand
    (subst IsKv c.self.view_is c.self.invariant.0) (returns-clause-ended g c) c.requires.passes
