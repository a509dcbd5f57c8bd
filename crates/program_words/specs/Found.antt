-- What `clap` finds in words.
use Rattle.std.specs.Prelude.{◌≡◌, ℕ, List, Bool, true, Option, option_map, codes, decimal, if◌then◌else◌}
use Rattle.clap.specs.Words.{Text, Row, one_of, subcommand_of, takes}
use Rattle.program_words.specs.Command.{program}

-- The command takes the words, so that only want of memory keeps it from reading them.
unfoldable pub AreTaken : (words : List Text) → Type 0
AreTaken words = takes program words ≡ true

-- The subcommand that the words name, and what is found for its arguments.
unfoldable pub found_in : (words : List Text) → Option (Text × List Row)
found_in words = subcommand_of program words

-- a subcommand's name, and the text of one of its arguments
abbrev pub name_in : Option (Text × List Row) → Option Text
name_in found = option_map (λ p. p.0) found

abbrev pub text_in : (id : Text) → Option (Text × List Row) → Option (Option Text)
text_in id found = option_map (λ p. one_of id p.1) found

-- the text of an option without a value
abbrev pub spelled : Bool → Text
spelled given = if given then codes "true" else codes "false"

-- the text of a number, where one is given
abbrev pub spelled_number : Option ℕ → Option Text
spelled_number number = option_map decimal number
