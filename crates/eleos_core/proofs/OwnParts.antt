-- What is true of a caller's private memory is true of a part of its blocks, with the same bytes.
use Rattle.std.proofs.Common.{◌≡◌, ◌≢◌, inl, inr, ⊎_elim, ℕ, ◌*◌, ◌==◌, List, [], ◌∷◌, map, not, if◌then◌else◌, refl, sym, ◌∙◌, ap}
use Rattle.std.specs.List.{range_with_len}
use Rattle.std.proofs.lemmas.Bool.{eqb-true}
use Rattle.eleos_base.specs.declared.memory.Addr.{Addr}
use Rattle.eleos_base.specs.declared.memory.Op.{Op as Calls}
use Rattle.eleos_base.specs.declared.memory.Op.TheVariants.{Alloc, Free, Share, Read, Write}
use Rattle.eleos_base.specs.declared.memory.Reply.{Reply}
use Rattle.eleos_base.specs.declared.memory.Reply.TheVariants.{Done, Got, Text}
use Rattle.eleos_base.specs.Own.{AreTrueFrom, IsAmong, IsOwnRange, IsTrueRead, IsTrueReply, OwnBlock, Private, Said, after_alloc, after_call, after_calls, after_loss, after_write, text_at, without, written, zeroed}
use Rattle.eleos_base.specs.Plain.{subs_for}
use Rattle.eleos_core.proofs.OwnBlocks.{among_without}
use Rattle.eleos_core.proofs.Tests.{by_test}

-- its blocks are among the other's, and its bytes are the same
pub record IsPartOf (p q : Private) : Type 0 where
  pub blocks : (block : OwnBlock) → IsAmong block p.blocks → IsAmong block q.blocks
  pub bytes : p.byte ≡ q.byte

-- a block that starts elsewhere is left
still_without : (start : ℕ) (block : OwnBlock) (blocks : List OwnBlock) → block.start ≢ start → IsAmong block blocks → IsAmong block (without start blocks)
still_without start block [] other among = absurd among
still_without start block (b ∷ blocks) other among = by_test (b.start == start) (λ v. b.start == start ≡ v → IsAmong block (if not v then b ∷ without start blocks else without start blocks))
    (λ _ is. ⊎_elim (λ (same : block ≡ b). absurd (other (ap (λ (z : OwnBlock). z.start) same ∙ eqb-true b.start start is))) (λ (rest : IsAmong block blocks). still_without start block blocks other rest) among)
    (λ _ is. ⊎_elim (λ (same : block ≡ b). inl same) (λ (rest : IsAmong block blocks). inr (still_without start block blocks other rest)) among) refl

part_alloc : (n : ℕ) (reply : Reply) (p q : Private) → IsPartOf p q → IsPartOf (after_alloc 1024 n reply p) (after_alloc 1024 n reply q)
part_alloc n (Got at) p q part = record {
  blocks = λ block among. ⊎_elim (λ same. inl same) (λ (old : IsAmong block p.blocks). inr (part.blocks block old)) among;
  bytes = λ i. zeroed at.at (1024 * subs_for 1024 n) (part.bytes i);
}
part_alloc n _ p q part = part

part_loss : (at : Addr) (reply : Reply) (p q : Private) → IsPartOf p q → IsPartOf (after_loss at reply p) (after_loss at reply q)
part_loss at Done p q part = record {
  blocks = λ block among. let left = among_without 0 0 at.at block p.blocks among in still_without at.at block q.blocks left.0 (part.blocks block left.1);
  bytes = part.bytes;
}
part_loss at _ p q part = part

part_write : (at : Addr) (bytes : List ℕ) (reply : Reply) (p q : Private) → IsPartOf p q → IsPartOf (after_write at bytes reply p) (after_write at bytes reply q)
part_write at bytes Done p q part = record { blocks = part.blocks; bytes = λ i. written at.at bytes (part.bytes i) }
part_write at bytes _ p q part = part

-- it stays so by each call
part_call : (op : Calls) (reply : Reply) (p q : Private) → IsPartOf p q → IsPartOf (after_call 1024 op reply p) (after_call 1024 op reply q)
part_call (Alloc n) reply p q part = part_alloc n reply p q part
part_call (Free at) reply p q part = part_loss at reply p q part
part_call (Share at) reply p q part = part_loss at reply p q part
part_call (Read at n) reply p q part = part
part_call (Write at bytes) reply p q part = part_write at bytes reply p q part

-- and by all of them
pub part_calls : (cs : List Said) (p q : Private) → IsPartOf p q → IsPartOf (after_calls 1024 p cs) (after_calls 1024 q cs)
part_calls [] p q part = part
part_calls (c ∷ cs) p q part = part_calls cs (after_call 1024 c.0 c.1 p) (after_call 1024 c.0 c.1 q) (part_call c.0 c.1 p q part)

-- reads that are true of the whole are true of the part
part_read : (at : Addr) (n : ℕ) (reply : Reply) (p q : Private) → IsPartOf p q → IsTrueRead 1024 q at n reply → IsTrueRead 1024 p at n reply
unfolding text_at
part_read at n (Text bytes) p q part told = λ range.
    let wider : IsOwnRange 1024 q at n = record { block = range.block; among = part.blocks range.block range.among; home = range.home; some = range.some; from = range.from; within = range.within; in_sub = range.in_sub } in
    told wider ∙ sym (ap (λ (byte : ℕ → ℕ). map byte (range_with_len at.at n)) part.bytes)
part_read at n _ p q part told = tt

part_reply : (op : Calls) (reply : Reply) (p q : Private) → IsPartOf p q → IsTrueReply 1024 q op reply → IsTrueReply 1024 p op reply
part_reply (Read at n) reply p q part told = part_read at n reply p q part told
part_reply (Alloc n) reply p q part told = tt
part_reply (Free at) reply p q part told = tt
part_reply (Share at) reply p q part told = tt
part_reply (Write at bytes) reply p q part told = tt

-- so all calls are true of the part
pub part_true : (cs : List Said) (p q : Private) → IsPartOf p q → AreTrueFrom 1024 q cs → AreTrueFrom 1024 p cs
part_true [] p q part told = tt
part_true (c ∷ cs) p q part told = (part_reply c.0 c.1 p q part told.0, part_true cs (after_call 1024 c.0 c.1 p) (after_call 1024 c.0 c.1 q) (part_call c.0 c.1 p q part) told.1)
