-- The keywords: their number, and how long they are.
use Rattle.std.specs.Prelude.{true, ◌≡◌, ◌<◌, ◌≤◌, ℕ, length}
use Rattle.std.proofs.Math.Path.{refl}
use Rattle.sets.specs.TestLaws.{all_out, ≤?_out}
use Rattle.sets.specs.Tests.{◌&◌, ◌≤?◌, all}
use Rattle.text.specs.Bytes.{bytes, keywords}
use Rattle.text.specs.Tables.{name_at}
use Rattle.words.specs.Keywords.{keyword_count}

pub keywords_counted : length keywords ≡ keyword_count
unfolding keywords
keywords_counted = refl

pub keyword_length : (k : ℕ) → k < keyword_count → length (name_at keywords k) ≤ 32
keyword_length k h = ≤?_out _ _ (all_out keyword_count (λ i. length (name_at keywords i) ≤? 32) each k h)
  where
    each : all keyword_count (λ i. length (name_at keywords i) ≤? 32) ≡ true
    each = unfold all name_at keywords bytes ◌&◌ ◌≤?◌ in refl
