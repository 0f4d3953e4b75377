-- What a line buffer keeps.
use Rattle.std.specs.Prelude.{ℕ, List, take}
use Rattle.session.specs.declared.buffer.LineBuffer.{LineBuffer}

-- the bytes read so far
abbrev pub kept : LineBuffer → List ℕ
kept buffer = take buffer.len buffer.bytes
