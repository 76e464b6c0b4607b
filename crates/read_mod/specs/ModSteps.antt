-- What the reader of "mod" carries from version to version, and what is made of what was read of "mod" and "modvar".
use Rattle.std.specs.Prelude.{Option, Some, ◌≡◌, ℕ, option_map}
use Rattle.model.specs.Book.{implementations, versions}
use Rattle.names.specs.Stored.{Rows, table_of}
use Rattle.command_lists.specs.Gathered.{Gathered, nothing}
use Rattle.command_lists.specs.Said.{numbers_step}
use Rattle.command_lists.specs.Views.{numbers_view}
use Rattle.command_lists.specs.declared.gathered.Gathered.{Gathered as Kept}
use Rattle.text.specs.Language.{Name}
use Rattle.text.specs.Tables.{Table}
use Rattle.read_tokens.specs.Entering.{Enters, both}
use Rattle.read_tokens.specs.declared.ModRequest.{ModRequest}
use Rattle.read_tokens.specs.declared.ModvarRequest.{ModvarRequest}
use Rattle.read_tokens.specs.declared.Pair.{Pair}

pub record ModState : Type 0 where
  pub vers : Table
  pub impls : Table
  -- none where a name found no place
  pub numbers : Option (Gathered ℕ)

unfoldable pub mod_state : Rows → Rows → Option (Kept ℕ 64) → ModState
mod_state v i g = record { vers = table_of versions v; impls = table_of implementations i; numbers = option_map numbers_view g }

-- no version yet
unfoldable pub mod_start : Table → Table → ModState
mod_start v i = record { vers = v; impls = i; numbers = Some nothing }

-- one version more, at the place v, with its implementation at i
unfoldable pub add_number : Option (Gathered ℕ) → Option ℕ → Option ℕ → Option (Gathered ℕ)
add_number g v i = both numbers_step g (both (λ k j. (k, j)) v i)

pub record ModStep (s s' : ModState) (x : Name × Name) : Type 0 where
  pub place : Option ℕ
  pub enters : Enters versions s.vers s'.vers place x.0
  pub impl : Option ℕ
  pub impl_enters : Enters implementations s.impls s'.impls impl x.1
  pub numbers : s'.numbers ≡ add_number s.numbers place impl

-- ---- what is asked for, if each name found a place

unfoldable pub mod_made : Option ℕ → Option (Kept ℕ 64) → Option ModRequest
mod_made c v = both (λ k g. record { component = k; versions = g }) c v

unfoldable pub pair_made : Option ℕ → Option ℕ → Option Pair
pair_made c v = both (λ k j. record { component = k; version = j }) c v

unfoldable pub modvar_made : Option Pair → Option ℕ → Option ℕ → Option ModvarRequest
modvar_made p q i =
    both (λ k (x : ℕ × ℕ). record { component = k.component; version = k.version; required = x.1; implementation = x.0 }) p
    (both (λ j s. (j, s)) i q)
