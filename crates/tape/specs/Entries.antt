-- The two entries of a fill, each with its test, and the fault at the first that fails it.
use Rattle.std.specs.Prelude.{ℕ, Bool, List, Some, None, Ok, Err, Option, Result}
use Rattle.orders.specs.declared.trade.Fill.{Fill}
use Rattle.tape.specs.declared.entry.Entry.{Entry}
use Rattle.tape.specs.declared.entry.Entry.TheVariants.{Who, What}
use Rattle.tape.specs.declared.fault.BlockFault.{BlockFault}
use Rattle.tape.specs.declared.fault.BlockFault.TheVariants.{WhoOutOfRange, WhatOutOfRange}
use Rattle.tape.specs.Asked.{first_bad, what_in_range, who_in_range}
use Rattle.tape.specs.Block.{what_at, what_entry, who_at, who_entry}

abbrev pub admits : Entry → Fill → Bool
admits Who f = who_in_range f
admits What f = what_in_range f

-- the bytes of the entry, and how many they are
abbrev pub entry_bytes : Entry → Fill → List ℕ
entry_bytes Who f = who_entry f
entry_bytes What f = what_entry f

abbrev pub entry_size : Entry → ℕ
entry_size Who = 12
entry_size What = 8

abbrev pub entry_fault : Entry → ℕ → ℕ → BlockFault
entry_fault Who count i = WhoOutOfRange (who_at i)
entry_fault What count i = WhatOutOfRange (what_at count i)

-- the fault at the first fill of which this entry is out of range; none where every one is in range
abbrev pub at_first : Entry → ℕ → Option ℕ → Result (Unit {0}) BlockFault
at_first entry count None = Ok tt
at_first entry count (Some i) = Err (entry_fault entry count i)

abbrev pub judged : Entry → List Fill → ℕ → Result (Unit {0}) BlockFault
judged entry fs count = at_first entry count (first_bad (admits entry) 0 fs)
