-- Why words ask for no run, or can't be read.
use Rattle.program_words.specs.Words.{Form, IsForm}
use Rattle.program_words.specs.declared.reading.WordsFault.{WordsFault}
use Rattle.program_words.specs.declared.reading.WordsFault.TheVariants.{Unknown, OutOfMemory}

-- They are of no form of the program; or they are of one, and there was no memory to read them.
abbrev pub Refuses : Form → WordsFault → Type 0
Refuses form Unknown = ¬ IsForm form
Refuses form OutOfMemory = IsForm form
