-- What a turnstile over the machine's cells has stamped is a legal history of the machine, and the parts that it keeps are what that history made.
use Rattle.std.proofs.Common.{◌≡◌, ℕ, ◌+◌, ◌-◌, ◌<◌, ◌≤◌, ◌==◌, ◌&&◌, List, [], ◌∷◌, length, map, Bool, cond, if◌then◌else◌, refl, sym, ◌∙◌, subst, ap, arith, inl, inr, ⊎_elim, eq-eqb, ne_eqb}
use mathlib.Core.Logic.{dite}
use native.Mathlib.Decide.{ℕ_discrete}
use Rattle.std.proofs.lemmas.Bool.Decides.{nat_tests}
use Rattle.eleos_base.specs.declared.memory.Reply.{Reply}
use Rattle.eleos_base.specs.declared.plot.Event.{Event as Stamped}
use Rattle.eleos_base.specs.Histories.{LegalFrom, linked, linked_from, made, made_from, no_link, put, tied_up}
use Rattle.eleos_base.specs.Plain.{is_accepted}
use Rattle.eleos_base.specs.Plans.{IsGood}
use Rattle.eleos_base.specs.Ties.{Has, neither, adds, takes}
use Rattle.eleos_core.specs.declared.event.Entry.{Entry}
use Rattle.eleos_core.specs.declared.event.Event.{Event}
use Rattle.eleos_core.specs.declared.event.Event.TheVariants.{Op, Link, Unlink, Fill, Evict, Move, Starved, Spoiled, Survey}
use Rattle.eleos_core.specs.Legal.{CoreRun, CoreStep}
use Rattle.eleos_core.specs.PartLaws.{LinksAllow, PartsFollow}
use Rattle.eleos_core.specs.Parts.{MayStep, Part, Stamp, after_at, foot, page_cell, part_at}
use Rattle.eleos_base.specs.Places.{page_of, sub_of}
use Rattle.eleos_core.specs.Seals.{Seals, seals_by}
use Rattle.eleos_core.specs.State.{History, entry, links}
use Rattle.eleos_core.proofs.Gluing.{has_or_not, len_is}
use Rattle.eleos_core.proofs.Judging.{parts_allow, parts_judge}
use Rattle.eleos_core.proofs.KeepingUp.{keep_up}
use Rattle.eleos_core.proofs.Ordered.{none_empty}
use Rattle.eleos_core.proofs.Tests.{by_test}
use Rattle.eleos_plot.specs.declared.plot.Ground.{Ground}
use Rattle.eleos_plot.specs.Histories.{history_after, history_of, kept_by}
use Rattle.eleos_plot.specs.Laws.{KeptIsMade, PlotAgrees, PlotAllows}
use Rattle.eleos_plot.specs.Terms.{bare_of, core_terms, tie_of}

-- a cell that is not among those put keeps its part
put_else : {Q : Type 0} (kept : List (ℕ × Q)) (f : ℕ → Q) (c : ℕ) → (Has c (map (λ q. q.0) kept) → ⊥) → put kept f c ≡ f c
put_else [] f c away = refl
put_else (q ∷ kept) f c away = ap (λ (t : Bool). cond t q.1 (put kept f c)) (ne_eqb c q.0 (λ e. away (inl e))) ∙ put_else kept f c (λ h. away (inr h))

-- each of these cells has the part that the function gives
put_map : {Q : Type 0} (g : ℕ → Q) (cells : List ℕ) (f : ℕ → Q) (c : ℕ) → Has c cells → put (map (λ z. (z, g z)) cells) f c ≡ g c
put_map g [] f c h = absurd h
put_map g (y ∷ ys) f c h = dite (ℕ_discrete c y)
    (λ e. ap (λ (t : Bool). cond t (g y) (put (map (λ z. (z, g z)) ys) f c)) (eq-eqb c y e) ∙ ap g (sym e))
    (λ ne. ap (λ (t : Bool). cond t (g y) (put (map (λ z. (z, g z)) ys) f c)) (ne_eqb c y ne) ∙ put_map g ys f c (⊎_elim (λ (q : c ≡ y). absurd (ne q)) (λ (q : Has c ys). q) h))

cells_of_map : {Q : Type 0} (g : ℕ → Q) (cells : List ℕ) → map (λ (q : ℕ × Q). q.0) (map (λ z. (z, g z)) cells) ≡ cells
cells_of_map g [] = refl
cells_of_map g (y ∷ ys) = ap (λ zs. y ∷ zs) (cells_of_map g ys)

same_past : (n p q : ℕ) → (n + p == n + q) ≡ (p == q)
same_past n p q = grind (arith, nat_tests)

module _ (g : Ground) where
  -- each link that the ties count is one that the machine counts
  abbrev LinksAre : History → (ℕ → ℕ → ℕ) → Type 0
  LinksAre past l = (by p : ℕ) → l by (page_cell g.plan p) ≡ links g.plan past by p

  abbrev PartsAre : History → (ℕ → Part) → Type 0
  PartsAre past f = (c : ℕ) → f c ≡ part_at g.plan (seals_by g.key) past c

  -- so after one entry more
  links_follow : (past : History) (who : ℕ) (event : Event) (blocks : List (List ℕ)) (reply : Reply) (l : ℕ → ℕ → ℕ) → LinksAre past l → LinksAre (entry who event blocks reply ∷ past) (tied_up who (tie_of g.plan event reply) l)
  links_follow past who (Link at) blocks reply l same by p = by_test (is_accepted reply)
      (λ v. tied_up who (if v then adds (page_cell g.plan (page_of g.plan (sub_of g.plan at))) else neither) l by (page_cell g.plan p) ≡ (if v && by == who && p == page_of g.plan (sub_of g.plan at) then links g.plan past by p + 1 else links g.plan past by p))
      (λ _ i. if (by == who) && same_past (length g.plan.enclaves + length g.plan.enclaves + 1) p (page_of g.plan (sub_of g.plan at)) i then same by p i + 1 else same by p i)
      (λ _. same by p)
  links_follow past who (Unlink q) blocks reply l same by p = λ i. if (by == who) && same_past (length g.plan.enclaves + length g.plan.enclaves + 1) p q i then same by p i - 1 else same by p i
  links_follow past who (Op op) blocks reply l same by p = same by p
  links_follow past who (Fill q f) blocks reply l same by p = same by p
  links_follow past who (Evict q f) blocks reply l same by p = same by p
  links_follow past who (Move f from to) blocks reply l same by p = same by p
  links_follow past who (Starved wanted sweep) blocks reply l same by p = same by p
  links_follow past who (Spoiled wanted) blocks reply l same by p = same by p
  links_follow past who (Survey e goal sweep) blocks reply l same by p = same by p

  -- what the turnstile demands of links is what the machine demands
  links_allow : (past : History) (who : ℕ) (event : Event) (reply : Reply) (l : ℕ → ℕ → ℕ) → LinksAre past l
      → ((c : ℕ) → Has c (bare_of g.plan event) → (by : ℕ) → l by c ≡ 0) → ((c : ℕ) → tie_of g.plan event reply ≡ takes c → 0 < l who c) → LinksAllow g.plan past who event
  links_allow past who (Unlink p) reply l same bare there = let some = there (page_cell g.plan p) refl in let is = same who p in subst (λ n. 1 ≤ n) is (omega arith)
  links_allow past who (Evict p f) reply l same bare there = λ by. sym (same by p) ∙ bare (page_cell g.plan p) (inl refl) by
  links_allow past who (Op op) reply l same bare there = tt
  links_allow past who (Link at) reply l same bare there = tt
  links_allow past who (Fill p f) reply l same bare there = tt
  links_allow past who (Move f from to) reply l same bare there = tt
  links_allow past who (Starved wanted sweep) reply l same bare there = tt
  links_allow past who (Spoiled wanted) reply l same bare there = tt
  links_allow past who (Survey e goal sweep) reply l same bare there = tt

  -- what the turnstile stamps after a legal history, with the parts and links that it made
  pub record RunsOn (past : History) (f : ℕ → Part) (l : ℕ → ℕ → ℕ) (es : List (Stamped Stamp Part)) : Type 0 where
    pub legal : CoreRun g.plan (seals_by g.key) (history_after past es)
    pub parts : PartsAre (history_after past es) (made_from f es)
    pub links : LinksAre (history_after past es) (linked_from core_terms g l es)

  pub runs_on : IsGood g.plan → (es : List (Stamped Stamp Part)) (past : History) (f : ℕ → Part) (l : ℕ → ℕ → ℕ) → CoreRun g.plan (seals_by g.key) past → PartsAre past f → LinksAre past l
      → LegalFrom core_terms g f l es → RunsOn past f l es
  runs_on good [] past f l run same ties legal = record { legal = run; parts = same; links = ties }
  runs_on good (e ∷ es) past f l run same ties legal =
      let x : Seals = seals_by g.key in
      let d : Stamp = e.entry in
      let made : Entry = d.entry in
      let may : MayStep g.plan x d (part_at g.plan x past) = subst (λ (b : ℕ → Part). MayStep g.plan x d b) (λ i c. same c i) legal.0.steps.may in
      let step : CoreStep g.plan x past made = parts_judge g.plan x past d good run may (links_allow past made.who made.event made.reply l ties legal.0.bare legal.0.there) in
      let follow : PartsFollow g.plan x past d = keep_up g.plan (none_empty g.plan good) x past d good run step (len_is g.plan x good past d made.event may.within may.on_parts) in
      let rest = runs_on good es (made ∷ past) (put e.kept f) (tied_up made.who (tie_of g.plan made.event made.reply) l) (step, run)
      (λ c. ⊎_elim
      (λ (in_foot : Has c (foot g.plan d)). legal.0.steps.made c in_foot ∙ (ap (λ (b : ℕ → Part). after_at g.plan x d b c) (λ i c'. same c' i) ∙ sym (follow.touched c in_foot)))
      (λ (away : Has c (foot g.plan d) → ⊥). put_else e.kept f c (λ h. away (subst (Has c) legal.0.cells h)) ∙ (same c ∙ sym (follow.others c away)))
      (has_or_not c (foot g.plan d)))
      (links_follow past made.who made.event made.blocks made.reply l ties) legal.1 in
      record { legal = rest.legal; parts = rest.parts; links = rest.links }

-- a legal history of a turnstile over the machine's cells is a legal one of the machine, with the same parts and links
pub plot_agrees : PlotAgrees
plot_agrees b es opening legal =
    let run = runs_on b.grounds opening.good es [] _ no_link tt opening.parts (λ by p. refl) legal in
    record { legal = run.legal; parts = run.parts; links = run.links }

-- what is kept by an entry that may be made is what it makes of the cells that it touches, and no other cell changes
pub kept_is_made : KeptIsMade
kept_is_made g before d may = record {
  cells = cells_of_map (after_at g.plan (seals_by g.key) d before) (foot g.plan d);
  steps = record { may = may; made = λ c in_foot. put_map (after_at g.plan (seals_by g.key) d before) (foot g.plan d) before c in_foot };
  others = λ c away. put_else (kept_by g before d) before c (λ h. away (subst (Has c) (cells_of_map (after_at g.plan (seals_by g.key) d before) (foot g.plan d)) h));
}

module _ (g : Ground) (past : History) (l : ℕ → ℕ → ℕ) (same : LinksAre g past l) where
  -- nobody has a link on a page that the machine lets go
  bare_allowed : (who : ℕ) (event : Event) (blocks : List (List ℕ)) (reply : Reply) → CoreStep g.plan (seals_by g.key) past (entry who event blocks reply) → (c : ℕ) → Has c (bare_of g.plan event) → (by : ℕ) → l by c ≡ 0
  bare_allowed who (Evict p f) blocks reply step c has by = ⊎_elim (λ (is : c ≡ page_cell g.plan p). ap (l by) is ∙ (same by p ∙ step.step.0.no_link by)) (λ (none : ⊥). absurd none) has
  bare_allowed who (Op op) blocks reply step c has by = absurd has
  bare_allowed who (Link at) blocks reply step c has by = absurd has
  bare_allowed who (Unlink p) blocks reply step c has by = absurd has
  bare_allowed who (Fill p f) blocks reply step c has by = absurd has
  bare_allowed who (Move f from to) blocks reply step c has by = absurd has
  bare_allowed who (Starved wanted sweep) blocks reply step c has by = absurd has
  bare_allowed who (Spoiled wanted) blocks reply step c has by = absurd has
  bare_allowed who (Survey e goal sweep) blocks reply step c has by = absurd has

  -- who unlinks has a link
  taken_allowed : (who : ℕ) (event : Event) (blocks : List (List ℕ)) (reply : Reply) → CoreStep g.plan (seals_by g.key) past (entry who event blocks reply) → (c : ℕ) → tie_of g.plan event reply ≡ takes c → 0 < l who c
  taken_allowed who (Unlink p) blocks reply step c is = let at : page_cell g.plan p ≡ c = cc in let some = step.step.0 in subst (λ z. 0 < l who z) at (subst (λ n. 0 < n) (sym (same who p)) (omega arith))
  taken_allowed who (Link at) blocks reply step c is = by_test (is_accepted reply) (λ v. (if v then adds (page_cell g.plan (page_of g.plan (sub_of g.plan at))) else neither) ≡ takes c → 0 < l who c) (λ _ e. cc) (λ _ e. cc) is
  taken_allowed who (Op op) blocks reply step c is = cc
  taken_allowed who (Fill p f) blocks reply step c is = cc
  taken_allowed who (Evict p f) blocks reply step c is = cc
  taken_allowed who (Move f from to) blocks reply step c is = cc
  taken_allowed who (Starved wanted sweep) blocks reply step c is = cc
  taken_allowed who (Spoiled wanted) blocks reply step c is = cc
  taken_allowed who (Survey e goal sweep) blocks reply step c is = cc

-- an entry that is legal on the machine after a turnstile's history may follow there, with what it makes of its cells
pub plot_allows : PlotAllows
plot_allows b es d opening legal step is_len =
    let g : Ground = b.grounds in
    let past : History = history_of es in
    let x : Seals = seals_by g.key in
    let run = plot_agrees b es opening legal in
    let links : ℕ → ℕ → ℕ = linked core_terms g es in
    let may : MayStep g.plan x d (made core_terms b es) = subst (λ (f : ℕ → Part). MayStep g.plan x d f) (λ i c. sym (run.parts c) i) (parts_allow g.plan x past d opening.good run.legal step is_len) in
    let kept = kept_is_made g (made core_terms b es) d may in
    record {
      cells = kept.cells;
      steps = kept.steps;
      bare = bare_allowed g past links run.links d.entry.who d.entry.event d.entry.blocks d.entry.reply step;
      there = taken_allowed g past links run.links d.entry.who d.entry.event d.entry.blocks d.entry.reply step;
    }
