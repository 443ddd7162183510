-- A command is served: its shard is taken, the entry stamped, and the shard given back.
use Rattle.std.proofs.Common.{◌≡◌, ◌⊎◌, ℕ, ◌+◌, ◌<◌, ◌≤◌, List, [], ◌∷◌, ◌++◌, length, refl, sym, ap, ◌∙◌, subst, inl, inr, ⊎_elim, arith}
use Rattle.eleos_base.specs.Ties.{Has, neither, adds, takes}
use Rattle.eleos_base.specs.Histories.{put}
use Rattle.eleos_turn.specs.Numbers.{less_one}
use Rattle.eleos_turn.specs.Hands.{Took, CanStamp, Stamped, IsSound, part_of, without_turn}
use Rattle.eleos_turn.proofs.Numbers.{here}
use Rattle.eleos_turn.proofs.Clients.{stamped_part, goes_took, goes_stamped, goes_given, goes_trans}
use Rattle.eleos_kvwire.specs.declared.trace.KvCommand.{KvCommand}
use Rattle.eleos_kvwire.specs.Sessions.{key_of}
use Rattle.eleos_shard.specs.declared.reply.KvReply.{KvReply}
use Rattle.eleos_shard.specs.Maps.{shard_of}
use Rattle.eleos_kv.specs.Cells.{CellState, ShardPart, shard_part}
use Rattle.eleos_kv.specs.Serving.{CanServe, HasServed, HasWaited, IsKv, KvHandState, KvState, entry_of, kept_of}
use Rattle.eleos_kv.specs.Terms.{Takes, kv_terms, step_by}
use Rattle.eleos_kv.proofs.Kept.{shard_ready}

no_adds : (c : ℕ) → neither ≡ adds c → ⊥
no_adds c e = cc

no_takes : (c : ℕ) → neither ≡ takes c → ⊥
no_takes c e = cc

module _ (s : KvState) (command : KvCommand) (h h₁ : KvHandState) (x : CellState) (cell word : ℕ) (kv : IsKv s) (can : CanServe s h command)
    (is : cell ≡ shard_of s.all.base.grounds (key_of command.act)) (took : Took kv_terms cell word h x h₁) (sound : IsSound kv_terms h₁) where
  home₁ : h₁.home ≡ s.all
  home₁ = ap (λ (y : KvHandState). y.home) took.now ∙ can.home

  left₁ : 0 < h₁.left
  left₁ = let l = ap (λ (y : KvHandState). y.left) took.now in let some = can.left in omega (arith, l, some)

  number₁ : h₁.number ≡ command.client
  number₁ = ap (λ (y : KvHandState). y.number) took.now ∙ can.client

  turns₁ : h₁.turns ≡ cell ∷ []
  turns₁ = ap (λ (y : KvHandState). y.turns) took.now ∙ ap (λ (z : List ℕ). cell ∷ z) can.idle

  pub taken_home : cell < length s.all.base.opening → x.pass.hand.home ≡ s.machine
  taken_home at = ap (λ (p : ShardPart). p.home) took.part ∙ (shard_ready s h₁ cell kv home₁ sound left₁ at).0

  pub taken_left : cell < length s.all.base.opening → 3 ≤ x.pass.hand.left
  taken_left at = let e = ap (λ (p : ShardPart). p.facts.left) took.part in let r = (shard_ready s h₁ cell kv home₁ sound left₁ at).2 in omega (arith, e, r)

  -- a shard that goes back as it was
  pub given_same : (y : CellState) → shard_part y ≡ shard_part x → shard_part y ≡ part_of kv_terms h₁ cell
  given_same y same = same ∙ took.part

  pub has_waited : (h₂ : KvHandState) → h₂ ≡ without_turn h₁ cell → HasWaited h h₂
  has_waited h₂ e = record {
    goes = goes_trans kv_terms h h₁ h₂ [] [] (goes_took kv_terms cell word h h₁ x can.made took) (goes_given kv_terms cell h₁ h₂ e);
    idle = ap (λ (z : KvHandState). z.turns) e ∙ (ap (λ (z : List ℕ). less_one cell z) turns₁ ∙ here {A = List ℕ} cell cell [] (cell ∷ []) refl);
  }

  cell₁ : cell ≡ shard_of h₁.home.base.grounds (key_of command.act)
  cell₁ = is ∙ ap (λ z. shard_of z.base.grounds (key_of command.act)) (sym home₁)

  module _ (reply : KvReply) (y : CellState) (takes_it : Takes command.act reply (shard_part x) (shard_part y)) where
    abbrev c₁ : ℕ
    c₁ = shard_of h₁.home.base.grounds (key_of command.act)

    put_is : put (kept_of h₁.home.base.grounds (entry_of command reply) y) (part_of kv_terms h₁) c₁ ≡ shard_part y
    put_is = here {A = ShardPart} c₁ c₁ (shard_part y) (part_of kv_terms h₁ c₁) refl

    before_is : part_of kv_terms h₁ c₁ ≡ shard_part x
    before_is = ap (part_of kv_terms h₁) (sym cell₁) ∙ sym took.part

    pub may_stamp : CanStamp kv_terms h₁ (entry_of command reply) (kept_of h₁.home.base.grounds (entry_of command reply) y)
    may_stamp = record {
      own = sym number₁;
      left = left₁;
      held = λ c q. ⊎_elim (λ (e : c ≡ c₁). subst (Has c) (sym turns₁) (inl (e ∙ sym cell₁))) (λ (n : ⊥). absurd n) q;
      cells = refl;
      steps = step_by command.act reply (shard_part x) (shard_part y) _ _ before_is put_is takes_it;
      bare = λ c q. absurd q;
      adds_link = λ c e. absurd (no_adds c e);
      takes_link = λ c e. absurd (no_takes c e);
    }

    module _ (h₂ : KvHandState) (stamp : ℕ) (stamped : Stamped kv_terms (entry_of command reply) (kept_of h₁.home.base.grounds (entry_of command reply) y) h₁ stamp h₂) where
      pub given_part : shard_part y ≡ part_of kv_terms h₂ cell
      given_part = sym put_is ∙ (sym (stamped_part kv_terms (entry_of command reply) (kept_of h₁.home.base.grounds (entry_of command reply) y) h₁ h₂ stamp stamped c₁ (inl refl)) ∙ ap (part_of kv_terms h₂) (sym cell₁))

      turns₂ : h₂.turns ≡ cell ∷ []
      turns₂ = ap (λ (z : KvHandState). z.turns) stamped.now ∙ turns₁

      pub has_served : (h₃ : KvHandState) → h₃ ≡ without_turn h₂ cell → HasServed h command reply stamp h₃
      has_served h₃ e = record {
        goes = goes_trans kv_terms h h₁ h₃ [] ((stamp, entry_of command reply) ∷ []) (goes_took kv_terms cell word h h₁ x can.made took)
            (goes_trans kv_terms h₁ h₂ h₃ ((stamp, entry_of command reply) ∷ []) [] (goes_stamped kv_terms (entry_of command reply) (kept_of h₁.home.base.grounds (entry_of command reply) y) h₁ h₂ stamp (subst (λ (n : ℕ). 0 < n) (ap (λ (z : KvHandState). z.number) (sym took.now)) can.made) may_stamp stamped)
            (goes_given kv_terms cell h₂ h₃ e));
        idle = ap (λ (z : KvHandState). z.turns) e ∙ (ap (λ (z : List ℕ). less_one cell z) turns₂ ∙ here {A = List ℕ} cell cell [] (cell ∷ []) refl);
      }
