-- Where a byte leads within the trailers of a body in chunks.
use Rattle.std.specs.Prelude.{ℕ, if◌then◌else◌, ◌==◌}
use Rattle.httparse.specs.Ascii.{line_feed, carriage_return, colon}
use Rattle.httparse.specs.Grammar.{is_token_byte, is_value_byte}
use Rattle.http_text.specs.declared.trailers.TrailerPlace.{TrailerPlace}
use Rattle.http_text.specs.declared.trailers.TrailerPlace.TheVariants.{LineStart, Name, Value, LineFeed, LastFeed, End, Malformed}

abbrev pub place_after : TrailerPlace → ℕ → TrailerPlace
place_after LineStart b = if is_token_byte b then Name else (if b == carriage_return then LastFeed else Malformed)
place_after Name b = if is_token_byte b then Name else (if b == colon then Value else Malformed)
place_after Value b = if is_value_byte b then Value else (if b == carriage_return then LineFeed else Malformed)
place_after LineFeed b = if b == line_feed then LineStart else Malformed
place_after LastFeed b = if b == line_feed then End else Malformed
place_after End b = Malformed
place_after Malformed b = Malformed
