-- How many keywords there are: where their number stands in a contract or a law, it is this name.
use Rattle.std.specs.Prelude.{ℕ}

abbrev pub keyword_count : ℕ
keyword_count = 28
