use Rattle.std.proofs.Common.{refl, sym, ap}
use Rattle.eleos_base.specs.declared.memory.Addr.{Addr}
use Rattle.eleos_base.specs.declared.memory.Op.TheVariants as ops
use Rattle.eleos_base.specs.declared.memory.Reply.TheVariants as replies
use Rattle.std.proofs.Common.{ℕ, List}
use Rattle.eleos_sarray.proofs.Accessing.{called_as, range_as, read_array, read_value}
use Rattle.eleos_sarray.proofs.array.SArray.get.Goals as goal

pub returns-in-Err : goal.returns-in-Err
returns-in-Err g c = record {
  one = called_as _ _ _ _ _ _ (ap (λ (z : Addr). ops.Read z 8) c.item_at.ensures) refl c.in-Err.ensures.called;
  value = tt;
  err = c.in-Err.ensures.own (range_as _ c.args.self.now c.args.i _ _ c.item_at.ensures refl c.requires.array c.requires.within);
  fits = tt;
  array = read_array _ _ _ _ _ _ c.requires.array c.in-Err.ensures.called;
}

pub returns-in-Ok : goal.returns-in-Ok
returns-in-Ok g c = record {
  one = called_as _ _ _ _ _ _ (ap (λ (z : Addr). ops.Read z 8) c.item_at.ensures) (ap (λ (z : List ℕ). replies.Text z) (sym c.number_of.ensures.back)) c.in-Ok.ensures.called;
  value = read_value _ _ c.args.self.now c.args.i _ _ c.requires.array c.requires.within c.number_of.ensures.number
      (called_as _ _ _ _ _ _ (ap (λ (z : Addr). ops.Read z 8) c.item_at.ensures) refl c.in-Ok.ensures.called);
  err = tt;
  fits = c.number_of.type_inv;
  array = read_array _ _ _ _ _ _ c.requires.array c.in-Ok.ensures.called;
}
