-- The program as a command of `clap`: `tas` with its subcommands `run`, `bulk` and `replay`.
use Rattle.std.specs.Prelude.{◌≡◌, codes, Some, false}
use Rattle.clap.specs.Words.{App, Rule, Shape, Text, new_app, new_rule, shape_of, with_rule}
use Rattle.clap.specs.Words.{with_subcommand}
use Rattle.clap.specs.declared.builder.action.ArgAction.TheVariants.{SetTrue}
use Rattle.clap.specs.declared.builder.command.Command.{Command}
use Rattle.clap.specs.declared.builder.command.Command.TheViews.{out-Command}

-- an option without a value, and one with a value
abbrev pub switch : (name : Text) → Rule
switch name = record (new_rule name) { long = Some name; action = Some SetTrue }

abbrev pub valued : (name : Text) → Rule
valued name = record (new_rule name) { long = Some name }

-- the subcommands
abbrev pub run : Shape
run = (with_rule (with_rule (new_app (codes "run")) (valued (codes "cores"))) (switch (codes "pcap"))).top

abbrev pub bulk : Shape
bulk = (with_rule (with_rule (new_app (codes "bulk")) (valued (codes "cores"))) (new_rule (codes "clients"))).top

-- `replay` with the options that have values, and with all
abbrev pub replay_valued : Shape
replay_valued =
    (with_rule (with_rule (new_app (codes "replay")) (valued (codes "local"))) (valued (codes "cores"))).top

abbrev pub replay : Shape
replay =
    (with_rule (with_rule (with_rule (with_rule (new_app (codes "replay")) (valued (codes "local")))
    (valued (codes "cores"))) (switch (codes "pcap"))) (switch (codes "loose-sums"))).top

abbrev pub program : App
program = with_subcommand (with_subcommand (with_subcommand (new_app (codes "tas")) run) bulk) replay

-- The code's command is one of these, and none of its arguments is one of the others too.
pub record Stands (shape : Shape) (c : Command) : Type 0 where
  pub same : shape_of c ≡ shape
  pub own : (out-Command c).has_globals ≡ false
