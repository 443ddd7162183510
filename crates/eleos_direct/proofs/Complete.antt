-- Where the blocks came that were last sealed, none fails.
use Rattle.std.proofs.Common.{◌≡◌, ◌⊎◌, ℕ, List, [], ◌∷◌, length, Bool, true, false, Option, Some, None, MatchBool, MatchOption, if◌then◌else◌, inl, inr, refl, sym, ap, ◌∙◌}
use Rattle.std.proofs.lemmas.Slice.Eq.{bytes_eq-Decides}
use Rattle.eleos_base.specs.declared.memory.Op.TheVariants.{Alloc, Free, Share, Read, Write}
use Rattle.eleos_base.specs.declared.memory.Reply.{Reply}
use Rattle.eleos_base.specs.declared.memory.Reply.TheVariants.{Done, Text, Worn}
use Rattle.eleos_base.specs.declared.plan.Plan.{Plan}
use Rattle.eleos_base.specs.Plain as plain
use Rattle.eleos_base.specs.Plans.{sub_bytes}
use Rattle.eleos_core.specs.declared.event.Entry.{Entry}
use Rattle.eleos_core.specs.declared.event.Event.TheVariants.{Op}
use Rattle.eleos_core.specs.Legal.{ByBlocks, IsPlainly, Judged, access_refusal, failed, failed_last, is_worn, judged, passed, passes, unfit, verdict}
use Rattle.eleos_base.specs.Places.{sub_of}
use Rattle.eleos_core.specs.Seals.{Seals}
use Rattle.eleos_core.specs.State.{History, entry, found, last, places}
use Rattle.eleos_direct.specs.Laws.{AccessesComplete, AreLast}

none_fails : (k : Plan) (x : Seals) (past : History) (ps : List ℕ) (blocks : List (List ℕ)) (s : ℕ) → AreLast k x past ps blocks → judged (passes k x past) ps blocks ≡ failed s → ⊥
none_fails k x past [] [] s are is = cc
none_fails k x past [] (c ∷ cs) s are is = cc
none_fails k x past (p ∷ ps) [] s are is = cc
none_fails k x past (p ∷ ps) (c ∷ cs) s are is =
    let t = x.tag p (Rattle.eleos_core.specs.State.version k past p) in
    let same : passes k x past p c ≡ true = (bytes_eq-Decides (t c) (t (last k x past p))).1 (ap t are.0) in
    none_fails k x past ps cs s are.1 (sym (ap (λ b. if b then judged (passes k x past) ps cs else failed_last p cs) same) ∙ is)

by_last : (j : Judged) (good reply : Reply) → ((s : ℕ) → j ≡ failed s → ⊥) → ByBlocks j good reply → reply ≡ good
by_last passed good reply none h = h
by_last (failed s) good reply none h = absurd (none s refl)
by_last unfit good reply none h = absurd h

not_refused : (o : Option Reply) (A : Type 0) (B : Reply → Type 0) → o ≡ None → MatchOption o A B → A
not_refused None A B is h = h
not_refused (Some r) A B is h = cc

-- a write by whether it is worn
by_wear : (b : Bool) (e : Entry) (s : ℕ) (j : Judged) → ((t : ℕ) → j ≡ failed t → ⊥) → MatchBool b (IsPlainly e (Worn s)) (ByBlocks j Done e.reply) → (e.reply ≡ Done) ⊎ (e.reply ≡ Worn s)
by_wear true e s j none h = inr h.reply_is
by_wear false e s j none h = inl (by_last j Done e.reply none h)

-- an access that plain memory does not refuse, and for which the blocks came that were last sealed, is served
pub accesses_complete : AccessesComplete
accesses_complete k x past who (Read at n) blocks reply step allowed are =
    let text : List ℕ = plain.bytes_of (sub_bytes k at.enclave) at.enclave at.at n (found k x (entry who (Op (Read at n)) blocks reply) past (sub_of k at)) in (
      text,
      by_last (verdict k x past (Op (Read at n)) blocks) (Text text) reply (λ s is. none_fails k x past (places k (Op (Read at n)) past) blocks s are is)
          (not_refused (access_refusal k past who at n) _ (IsPlainly (entry who (Op (Read at n)) blocks reply)) allowed step.step),
    )
accesses_complete k x past who (Write at new) blocks reply step allowed are =
    by_wear (is_worn k past (sub_of k at)) (entry who (Op (Write at new)) blocks reply) (sub_of k at) (verdict k x past (Op (Write at new)) blocks)
    (λ s is. none_fails k x past (places k (Op (Write at new)) past) blocks s are is)
    (not_refused (access_refusal k past who at (length new)) _ (IsPlainly (entry who (Op (Write at new)) blocks reply)) allowed step.step)
accesses_complete k x past who (Alloc n) blocks reply step allowed are = tt
accesses_complete k x past who (Free at) blocks reply step allowed are = tt
accesses_complete k x past who (Share at) blocks reply step allowed are = tt
