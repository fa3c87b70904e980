-- How a reader keeps what it holds.
use Rattle.std.specs.Prelude.{◌≤◌, ◌+◌, length, drop, max}
use Rattle.std.specs.List.{position_or_len}
use Rattle.hac_model.specs.Bytes.{is_line_end}
use Rattle.hac_model.specs.declared.limits.TheConstants.{TEXT_LIMIT}
use Rattle.line_reader.specs.declared.reading.Reader.TheInside.{Inside}
use Rattle.line_reader.specs.Reading.{Reading, IsReading, piece_size}

-- what lies behind the start is buffered
abbrev pub reading_of : Inside → Reading
reading_of reader = record { buffered = drop reader.start reader.bytes.items; taken = reader.taken; ended = reader.ended }

-- What is buffered was scanned up to a place before which it has no line end. In memory there is the first line, or as many
-- bytes as a text may have, and at most one piece behind them.
pub record IsReader (reader : Inside) : Type 0 where
  pub start : reader.start ≤ length reader.bytes.items
  pub begun : reader.start ≤ reader.scanned
  pub scanned : reader.scanned ≤ reader.start + position_or_len is_line_end (drop reader.start reader.bytes.items)
  pub kept : length reader.bytes.items ≤ max (position_or_len is_line_end reader.bytes.items) TEXT_LIMIT + piece_size
  pub reading : IsReading (record { buffered = drop reader.start reader.bytes.items; taken = reader.taken; ended = reader.ended })
