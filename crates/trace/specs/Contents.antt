-- The table of contents: byte 1 (the edition), the number of sections, and an entry of 12 bytes for each.
use Rattle.std.specs.Prelude.{ℕ, ◌+◌, ◌-◌, ◌*◌, Bool, cond, ◌&&◌, ◌||◌, List, length, None, Option, ◌==◌, nat_eq, nat_le}
use Rattle.fault.specs.declared.Fault.{Fault}
use Rattle.trace.specs.declared.section.Section.{Section}
use Rattle.records.specs.Bytes.{byte, le16, le32}
use Rattle.fault.specs.Faults.{bad_contents, ◌unless◌, ◌else◌}

-- 1 (events) or 2 (setups, then events)
abbrev pub sections : List ℕ → ℕ
sections file = byte file 1

-- where entry k lies: its letter, a zero, the number of records in 2 bytes, the offset and the length of the body in 4 each
abbrev pub entry_place : ℕ → ℕ
entry_place k = 2 + 12 * k

abbrev pub records_in : List ℕ → ℕ → ℕ
records_in file k = le16 file (entry_place k + 2)

-- where the first body begins: right after the table
abbrev pub bodies : List ℕ → ℕ
bodies file = 2 + 12 * sections file

abbrev pub has_setups : List ℕ → Bool
has_setups file = sections file == 2

-- the setups are those of the first of two sections
abbrev pub setups_section : List ℕ → Section
setups_section file = record { start = bodies file; count = cond (has_setups file) (records_in file 0) 0 }

-- the events are those of the last section, whose body follows that of the setups
abbrev pub events_section : List ℕ → Section
events_section file = record { start = bodies file + 8 * (setups_section file).count; count = records_in file (sections file - 1) }

-- entry k is whole, has this letter, at most so many records, and the body that begins here and has 8 bytes for each
abbrev pub entry_right : List ℕ → ℕ → ℕ → ℕ → ℕ → Bool
entry_right file k letter most start =
    nat_le (entry_place k + 12) (length file) && byte file (entry_place k) == letter && byte file (entry_place k + 1) == 0
    && nat_le (records_in file k) most && le32 file (entry_place k + 4) == start && le32 file (entry_place k + 8) == 8 * records_in file k

abbrev pub entry_fault : List ℕ → ℕ → ℕ → ℕ → ℕ → Option Fault
entry_fault file k letter most start = bad_contents (entry_place k) unless entry_right file k letter most start

-- at most 1020 setups, letter S (83)
abbrev pub setups_entry_fault : List ℕ → Option Fault
setups_entry_fault file = cond (has_setups file) (entry_fault file 0 83 1020 (bodies file)) None

-- at most 3000 events, letter E (69)
abbrev pub events_entry_fault : List ℕ → Option Fault
events_entry_fault file = entry_fault file (sections file - 1) 69 3000 (events_section file).start

-- the size, the edition and the number of sections
abbrev pub head_fault : List ℕ → Option Fault
head_fault file =
    (bad_contents 0 unless (nat_le 14 (length file) && nat_le (length file) 32186))
    else (bad_contents 0 unless nat_eq (byte file 0) 1)
    else (bad_contents 0 unless (sections file == 1 || sections file == 2))

-- the file ends with the events
abbrev pub end_fault : List ℕ → Option Fault
end_fault file = bad_contents 0 unless nat_eq ((events_section file).start + 8 * (events_section file).count) (length file)

-- the head is judged first, then each entry, and last where the file ends
abbrev pub contents_fault : List ℕ → Option Fault
contents_fault file = head_fault file else setups_entry_fault file else events_entry_fault file else end_fault file
