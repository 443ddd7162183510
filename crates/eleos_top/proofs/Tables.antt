-- The names of all callers, where each has a table.
use Rattle.std.proofs.Common.{◌≡◌, ℕ, ◌-◌, ◌<◌, ◌≤◌, List, length, map, get_or, sym, ap, ◌∙◌, arith, set, Result, Ok, Err, OnOk}
use Rattle.std.proofs.lemmas.List.{get_or-map, get_or_past, length-map, map-set, set_past}
use Rattle.eleos_base.specs.declared.memory.Reply.{Reply}
use Rattle.eleos_meaning.specs.declared.names.NameTable.{NameTable}
use Rattle.eleos_meaning.specs.Names.{Names, names_after, no_names}
use Rattle.eleos_meaning.specs.NameTable.{names_in}
use Rattle.eleos_trace.specs.declared.word.Word.{Word}
use Rattle.eleos_top.specs.Scenes.{all_after, all_names, names_of}

module _ (tables : List NameTable) (who i : ℕ) (at : i ≡ who - 1) where
  -- a caller's names are those of its table
  pub names_at : (d : NameTable) → i < length tables → names_of (all_names tables) who ≡ names_in (get_or tables i d)
  names_at d within = ap (λ n. get_or (all_names tables) n no_names) (sym at) ∙ get_or-map names_in tables i d no_names within

  -- where there is no table there are no names
  pub none_past : length tables ≤ i → names_of (all_names tables) who ≡ no_names
  none_past past = get_or_past (all_names tables) (who - 1) no_names (let same = length-map tables names_in in omega (arith, at, same, past))

  module _ (word : Word) (reply : Reply) where
    -- a caller's table changed, and no other
    pub all_set : (d t : NameTable) → i < length tables → names_in t ≡ names_after word reply (names_in (get_or tables i d)) → all_names (set tables i t) ≡ all_after who word reply (all_names tables)
    all_set d t within is = map-set names_in tables i t ∙ (λ j. set (all_names tables) (at j) ((is ∙ ap (names_after word reply) (sym (names_at d within))) j))

    -- the same where there was enough memory
    pub all_set_if : {A E : Type 0} (result : Result A E) (d t : NameTable) → i < length tables → OnOk result (names_in t ≡ names_after word reply (names_in (get_or tables i d))) → OnOk result (all_names (set tables i t) ≡ all_after who word reply (all_names tables))
    all_set_if (Ok done) d t within bound = all_set d t within bound
    all_set_if (Err e) d t within bound = bound

    -- nobody's did
    pub all_kept : length tables ≤ i → all_names tables ≡ all_after who word reply (all_names tables)
    all_kept past = sym (set_past (all_names tables) (who - 1) _ (let same = length-map tables names_in in omega (arith, at, same, past)))
