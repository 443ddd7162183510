use Rattle.std.proofs.Common.{◌≡◌, ℕ, List, Some, map, string_bytes, option_map, sym, ◌∙◌, ap, codes}
use Rattle.clap.specs.Words.{app_of, found_of, rows_of}
use Rattle.clap.proofs.WalkLemmas.{first_value-rows}
use Rattle.eleos_args.specs.declared.command.ArgsRefused.TheVariants.{Usage}
use Rattle.eleos_args.specs.Commands.{command_by}
use Rattle.eleos_args.proofs.Parsed.{entered-command, entered-some, found-rows, refused-none}
use Rattle.eleos_args.proofs.reading.asked.Goals as goal

pub returns-in-Err-clause-usage : goal.returns-in-Err-clause-usage
returns-in-Err-clause-usage c = λ usage.
    let is : c.refusal.result ≡ Usage = cc in
    refused-none (map (λ word. string_bytes word) c.args.words.now) (app_of c.in_ok-program.field-0) c.in-Err.error c.in_ok-program.ensures c.requires c.in-Err.ensures.kinds (c.refusal.ensures is)

pub returns-clause-asked : goal.returns-clause-asked
returns-clause-asked c =
    entered-command (map (λ word. string_bytes word) c.args.words.now) (app_of c.in_ok-program.field-0) c.in-Ok.matches c.in_ok-program.ensures c.requires c.in-Ok.ensures.kinds c.in-Ok.ensures.matches
    c.in-Some.word.now (rows_of (found_of c.in-Some.inner.now))
    (found-rows c.in-Ok.matches c.in-Some.word.now (rows_of (found_of c.in-Some.inner.now)) c.in-Some.ensures.name c.in-Some.ensures.rows)
    ∙ ap (command_by c.in-Some.word.now) (sym (c.get_str.ensures ∙ first_value-rows (found_of c.in-Some.inner.now) (codes "value")))
