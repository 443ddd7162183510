use Rattle.std.proofs.Common.{ℕ, List, length, refl, ap, ◌∙◌}
use Rattle.eleos_base.specs.declared.memory.Addr.{Addr}
use Rattle.eleos_base.specs.declared.memory.Op.TheVariants as ops
use Rattle.eleos_base.specs.SubMemory.{HasCalled}
use Rattle.eleos_base.specs.Answers.{write_reply}
use Rattle.eleos_sarray.specs.Arrays.{bytes_of, item_at}
use Rattle.eleos_sarray.proofs.Numbers.{length-bytes_of}
use Rattle.eleos_sarray.proofs.Accessing.{called_as, range_as, write_array, write_err, write_ok}
use Rattle.eleos_sarray.proofs.array.SArray.set.Goals as goal

pub returns : goal.returns
returns g c = let called : HasCalled _ (ops.Write (item_at c.args.self.now c.args.i) (bytes_of c.args.value)) (write_reply c.write.result) _ = called_as _ _ _ _ _ _
    (ap (λ (z : Addr). ops.Write z c.bytes_of.result) c.item_at.ensures ∙ ap (λ (z : List ℕ). ops.Write (item_at c.args.self.now c.args.i) z) c.bytes_of.ensures) refl c.write.ensures.called in record {
      one = called;
      ok = write_ok _ _ c.args.self.now c.args.i c.args.value c.write.result c.requires.within c.ranges.value.fits called;
      err = write_err _ _ c.args.self.now c.args.i c.args.value c.write.result called;
      fault = c.write.ensures.own (range_as _ c.args.self.now c.args.i _ _ c.item_at.ensures (ap length c.bytes_of.ensures ∙ length-bytes_of c.args.value) c.requires.array c.requires.within);
      array = write_array _ _ _ _ _ _ c.requires.array called;
    }
