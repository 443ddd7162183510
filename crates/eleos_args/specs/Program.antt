-- The commands as `clap` is told of them.
use Rattle.std.specs.Prelude.{codes, true}
use Rattle.clap.specs.Walk.{Rule, Text}
use Rattle.clap.specs.Simple.{App, new_app, new_rule, on_top, with_rule, with_subcommand}

-- the one value that a command needs
abbrev pub value_rule : Rule
value_rule = record (new_rule (codes "value")) { required = true }

-- a command with a value
abbrev pub valued : Text → App
valued name = with_rule (new_app name) value_rule

-- the program before it has a command: it needs one, and has no help
abbrev pub settings : App
settings = on_top (λ top. record top {
  no_binary_name = true;
  disable_help_flag = true;
  disable_help_subcommand = true;
  subcommand_required = true;
}) (new_app (codes "eleos"))

-- a command without a value
abbrev pub and : App → Text → App
and app name = with_subcommand app (new_app name).top

-- and one with a value
abbrev pub and_valued : App → Text → App
and_valued app name = with_subcommand app (valued name).top

-- the program with its commands
abbrev pub program : App
program = and_valued (and_valued (and (and (and_valued (and (and settings (codes "run")) (codes "replay")) (codes "check")) (codes "serve")) (codes "gcm")) (codes "gen")) (codes "work")
