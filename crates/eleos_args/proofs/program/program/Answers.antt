use Rattle.std.proofs.Common.{◌≡◌, codes, ◌∙◌, ap, ap₂}
use Rattle.std.proofs.lemmas.Result.{IfOk-weaker}
use Rattle.clap.specs.Words.{App, app_of, with_subcommand}
use Rattle.eleos_args.specs.Program.{and, and_valued, program, settings}
use Rattle.eleos_args.proofs.program.program.Goals as goal

pub returns : goal.returns
returns c =
    let run : app_of c.in_ok-subcommand.field-0 ≡ and settings (codes "run") = c.in_ok-subcommand.ensures.shape c.new.ensures.local ∙ ap₂ with_subcommand c.settings.ensures (ap (λ (a : App). a.top) c.new.ensures.app) in
    let replay : app_of c.in_ok-subcommand-2.field-0 ≡ and (and settings (codes "run")) (codes "replay") = c.in_ok-subcommand-2.ensures.shape c.new-2.ensures.local ∙ ap₂ with_subcommand run (ap (λ (a : App). a.top) c.new-2.ensures.app) in
    let check : app_of c.in_ok-subcommand-3.field-0 ≡ and_valued (and (and settings (codes "run")) (codes "replay")) (codes "check")
    = c.in_ok-subcommand-3.ensures.shape c.in_ok-with_value.ensures.local ∙ ap₂ with_subcommand replay (ap (λ (a : App). a.top) c.in_ok-with_value.ensures.app) in
    let serve : app_of c.in_ok-subcommand-4.field-0 ≡ and (and_valued (and (and settings (codes "run")) (codes "replay")) (codes "check")) (codes "serve")
    = c.in_ok-subcommand-4.ensures.shape c.new-3.ensures.local ∙ ap₂ with_subcommand check (ap (λ (a : App). a.top) c.new-3.ensures.app) in
    let gcm : app_of c.in_ok-subcommand-5.field-0 ≡ and (and (and_valued (and (and settings (codes "run")) (codes "replay")) (codes "check")) (codes "serve")) (codes "gcm")
    = c.in_ok-subcommand-5.ensures.shape c.new-4.ensures.local ∙ ap₂ with_subcommand serve (ap (λ (a : App). a.top) c.new-4.ensures.app) in
    let gen : app_of c.in_ok-subcommand-6.field-0 ≡ and_valued (and (and (and_valued (and (and settings (codes "run")) (codes "replay")) (codes "check")) (codes "serve")) (codes "gcm")) (codes "gen")
    = c.in_ok-subcommand-6.ensures.shape c.in_ok-with_value-2.ensures.local ∙ ap₂ with_subcommand gcm (ap (λ (a : App). a.top) c.in_ok-with_value-2.ensures.app) in
    IfOk-weaker c.subcommand-7.result _ _ (λ command adds. adds.shape c.in_ok-with_value-3.ensures.local ∙ ap₂ with_subcommand gen (ap (λ (a : App). a.top) c.in_ok-with_value-3.ensures.app)) c.subcommand-7.ensures
