-- What a token log means.
use Rattle.std.specs.Prelude.{List, map}
use Rattle.record_log.specs.Records.{records_of}
use Rattle.book.specs.Picture.{Recorded}
use Rattle.board.specs.Credits.{recorded}
use Rattle.board.specs.declared.tokens.TokenLog.{TokenLog}

abbrev pub records_in : TokenLog → List Recorded
records_in l = map recorded (records_of l.records)
