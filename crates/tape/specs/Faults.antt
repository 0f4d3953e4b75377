-- What each refusal of a block tells.
use Rattle.std.specs.Prelude.{ℕ}
use Rattle.base.specs.declared.Layer.TheVariants.{Block}
use Rattle.base.specs.declared.Refusal.{Refusal}
use Rattle.tape.specs.declared.fault.BlockFault.{BlockFault}
use Rattle.tape.specs.declared.fault.BlockFault.TheVariants.{TooShort, TooManyFills, WrongLength, WhoOutOfRange, WhatOutOfRange, ListTooShort, BufferTooShort}

abbrev pub block_refusal : ℕ → ℕ → Refusal
block_refusal number place = record { number = number; layer = Block; place = place }

-- the number of the question that was answered no, and the offset of the bytes that it is about
abbrev pub refusal : BlockFault → Refusal
refusal TooShort = block_refusal 20 0
refusal TooManyFills = block_refusal 21 0
refusal WrongLength = block_refusal 22 4
refusal (WhoOutOfRange offset) = block_refusal 23 offset
refusal (WhatOutOfRange offset) = block_refusal 24 offset
refusal ListTooShort = block_refusal 25 0
refusal BufferTooShort = block_refusal 26 0
