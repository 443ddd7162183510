use Rattle.std.proofs.Common.{◌≡◌, ◌≤◌, drop}
use Rattle.std.specs.Str.Parse.{digits_value, digits_value_after}
use Rattle.eleos_texts.proofs.fields.number_up_to.Given as goal

-- the digits that are left complete the number
abbrev pub invariant-loop-digit : goal.invariant-loop-digit
invariant-loop-digit l = record {
  small : l.value ≤ l.most;
  whole : digits_value_after 10 l.value (drop l.digit-index l.text) ≡ digits_value 10 l.text;
}
