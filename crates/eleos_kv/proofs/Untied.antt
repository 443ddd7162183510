-- A pass whose entries are calls has no link.
use Rattle.std.proofs.Common.{◌≡◌, ℕ, ◌+◌, ◌<◌, ◌≤◌, List, [], ◌∷◌, ◌++◌, length, map, cond, refl, sym, ap, ◌∙◌, subst, arith, length-append}
use Rattle.std.proofs.lemmas.List.{length-map}
use Rattle.eleos_base.specs.declared.memory.Reply.{Reply}
use Rattle.eleos_base.specs.declared.plan.Plan.{Plan}
use Rattle.eleos_base.specs.Own.{Said}
use Rattle.eleos_base.specs.Plain.{Call}
use Rattle.eleos_base.specs.Ties.{neither}
use Rattle.eleos_base.specs.Histories.{no_link}
use Rattle.eleos_core.specs.declared.event.Event.{Event}
use Rattle.eleos_core.specs.declared.event.Event.TheVariants.{Op, Link, Unlink, Fill, Evict, Move, Starved, Spoiled, Survey}
use Rattle.eleos_core.specs.declared.event.Wanted.TheVariants.{Link as ALink, Op as ACall}
use Rattle.eleos_core.specs.Parts.{Made}
use Rattle.eleos_core.specs.State.{call_of}
use Rattle.eleos_direct.specs.Desks.{calls_made, calls_of}
use Rattle.eleos_machine.specs.Passes.{IsLawful, PassState}
use Rattle.eleos_plot.specs.declared.plot.Ground.{Ground}
use Rattle.eleos_plot.specs.Terms.{core_terms, tie_of}
use Rattle.eleos_turn.specs.Hands.{Goes, entries, fresh, links, links_on}
use Rattle.eleos_turn.specs.Numbers.{times}
use Rattle.eleos_turn.proofs.Clients.{AreUntied, goes_links}
use Rattle.eleos_turn.proofs.Links.{links_times}
use Rattle.eleos_turn.proofs.Numbers.{here}
use Rattle.eleos_kv.specs.Cells.{MakesCalls}

-- an entry answers one call at most
one_call : (who : ℕ) (event : Event) (reply : Reply) → length (call_of who event reply) ≤ 1
one_call who (Op op) reply = omega arith
one_call who (Starved (ALink at) sweep) reply = omega arith
one_call who (Starved (ACall op) sweep) reply = omega arith
one_call who (Spoiled (ALink at)) reply = omega arith
one_call who (Spoiled (ACall op)) reply = omega arith
one_call who (Link at) reply = omega arith
one_call who (Unlink page) reply = omega arith
one_call who (Fill page frame) reply = omega arith
one_call who (Evict page frame) reply = omega arith
one_call who (Move frame from to) reply = omega arith
one_call who (Survey enclave goal sweep) reply = omega arith

-- one that answers a call ties nothing
call_unties : (k : Plan) (who : ℕ) (event : Event) (reply : Reply) → 1 ≤ length (call_of who event reply) → tie_of k event reply ≡ neither
call_unties k who (Op op) reply some = refl
call_unties k who (Starved wanted sweep) reply some = refl
call_unties k who (Spoiled wanted) reply some = refl
call_unties k who (Link at) reply some = absurd (omega (arith, some))
call_unties k who (Unlink page) reply some = absurd (omega (arith, some))
call_unties k who (Fill page frame) reply some = refl
call_unties k who (Evict page frame) reply some = refl
call_unties k who (Move frame from to) reply some = refl
call_unties k who (Survey enclave goal sweep) reply some = refl

abbrev calls_in : Made → List Call
calls_in one = call_of one.1.entry.who one.1.entry.event one.1.entry.reply

first_calls : (one : Made) (made : List Made) → length (calls_made (one ∷ made)) ≡ length (calls_in one) + length (calls_made made)
first_calls one made = length-append (map (λ (c : Call). (c.op, c.reply)) (calls_in one)) (calls_made made) ∙ ap (λ (n : ℕ). n + length (calls_made made)) (length-map (calls_in one) (λ (c : Call). (c.op, c.reply)))

-- entries answer as many calls at most
few_calls : (made : List Made) → length (calls_made made) ≤ length made
few_calls [] = omega arith
few_calls (one ∷ made) = let a = first_calls one made in let b = one_call one.1.entry.who one.1.entry.event one.1.entry.reply in let c = few_calls made in omega (arith, a, b, c)

-- where they answer as many, none of them ties
untied : (g : Ground) (made : List Made) → length made ≤ length (calls_made made) → AreUntied core_terms g made
untied g [] all = tt
untied g (one ∷ made) all =
    let a = first_calls one made in let b = one_call one.1.entry.who one.1.entry.event one.1.entry.reply in let c = few_calls made in
    (call_unties g.plan one.1.entry.who one.1.entry.event one.1.entry.reply (omega (arith, all, a, b, c)), untied g made (omega (arith, all, a, b)))

-- a list in which no number stands
none_in : (xs : List ℕ) → ((c : ℕ) → times c xs ≡ 0) → xs ≡ []
none_in [] none = refl
none_in (x ∷ xs) none = let z = none x in let one = here {A = ℕ} x x 1 0 refl in absurd (omega (arith, z, one))

-- such a pass has no link
pub links_none : (s : PassState) → IsLawful s → 0 < s.hand.number → MakesCalls s → links core_terms s.hand ≡ []
links_none s lawful made calls =
    let start = fresh s.hand.home s.hand.number in
    let goes : Goes core_terms start s.hand (entries core_terms s.hand) = record { home = refl; number = refl; left = (let a = lawful.hand.counts made in omega (arith, a)); own = refl; more = s.hand.seen; sees = refl } in
    none_in (links core_terms s.hand) (λ c. links_times core_terms s.hand.home.base.grounds s.hand.number [] no_link s.hand.seen (λ _. refl) c
    ∙ goes_links core_terms start s.hand (entries core_terms s.hand) goes (untied s.hand.home.base.grounds (entries core_terms s.hand) calls) c)
