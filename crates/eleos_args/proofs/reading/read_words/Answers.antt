use Rattle.std.proofs.Common.{map, string_bytes, sym, ◌∙◌}
use Rattle.clap.proofs.WalkLemmas.{list_any-map}
use Rattle.eleos_args.specs.Commands.{is_flag}
use Rattle.eleos_args.proofs.Flags.{flag-none}
use Rattle.eleos_args.proofs.reading.read_words.Goals as goal

pub returns-then-has_flag-clause-usage : goal.returns-then-has_flag-clause-usage
returns-then-has_flag-clause-usage c = λ usage. flag-none (map (λ word. string_bytes word) c.args.words.now) (sym (list_any-map is_flag (λ word. string_bytes word) c.args.words.now) ∙ (sym c.has_flag.ensures ∙ c.if-has_flag.true))

pub asked-requires : goal.asked-requires
asked-requires c = sym (list_any-map is_flag (λ word. string_bytes word) c.args.words.now) ∙ (sym c.has_flag.ensures ∙ c.if-has_flag.false)
