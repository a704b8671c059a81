-- What a plain guest means.
use Rattle.interrupt.specs.Meaning.{cpu_of}
use Rattle.waiting.specs.Order.{waiting_list}
use Rattle.guest.specs.Book.{Book}
use Rattle.plain.specs.declared.plain_guest.PlainGuest.{PlainGuest}
use Rattle.plain.specs.Table.{at_of}

abbrev pub book_of : PlainGuest → Book
book_of g = record { at = at_of g.table; running = g.running; cpu = cpu_of g.cpu; waiting = waiting_list g.waiting }
