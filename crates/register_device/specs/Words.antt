-- What the words of a register device hold.
use Rattle.list_register.specs.Entries.{Entry}
use Rattle.layout.specs.declared.list_word.ListWord.{ListWord}
use Rattle.layout.specs.Layouts.{entry_in}

-- the entry in a list register's word
abbrev pub held_in : ListWord → Entry
held_in w = entry_in w.word
