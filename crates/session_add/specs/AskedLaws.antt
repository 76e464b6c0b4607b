-- The five adding commands as one: what each reader found is the reading of an adding command, and what each command answers for its
-- gathered lists it answers for the command that was read.
use Rattle.std.specs.Prelude.{List, Option, ◌≡◌, true, ℕ}
use Rattle.std.proofs.Math.Path.{ap}
use Rattle.std.proofs.Common.{subst, sym}
use Rattle.command_outcome.specs.Outcome.{Called}
use Rattle.read_tokens.specs.Requested.{ModAsked, ModAsks, ModvarAsked, ModvarAsks, SpecAsked, SpecAsks, SysAsked, SysAsks, SysvarAsked, SysvarAsks}
use Rattle.read_tokens.specs.declared.ModRequest.{ModRequest}
use Rattle.read_tokens.specs.declared.ModvarRequest.{ModvarRequest}
use Rattle.read_tokens.specs.declared.SpecRequest.{SpecRequest}
use Rattle.read_tokens.specs.declared.SysRequest.{SysRequest}
use Rattle.read_tokens.specs.declared.SysvarRequest.{SysvarRequest}
use Rattle.model.specs.Book.{facilities}
use Rattle.model.specs.Commands.{ADD-MOD, ADD-MODVAR, ADD-SPEC, ADD-SYS, ADD-SYSVAR, Command, Members}
use Rattle.model.specs.Lists.{set_of}
use Rattle.model.specs.Questions.{each_below}
use Rattle.command_lists.specs.Said.{compositions_of, members_of, numbers_of, sets_of, usable_of}
use Rattle.command_lists.specs.Views.{composition_view, compositions_view, numbers_view, sets_view, usable_view}
use Rattle.sets.specs.Sets.{bit}
use Rattle.text.specs.Language.{Said}
use Rattle.text.specs.Session.{carry}
use Rattle.text.specs.Tables.{Tables, mod_names, mod_numbered, modvar_names, modvar_numbered, spec_names, spec_numbered, sys_names, sys_numbered, sysvar_names, sysvar_numbered}
use Rattle.session_add.specs.Adding.{Adds}

-- ---- what was read

module _ (t t' : Tables) (x : Said) where
  pub spec_adds : (o : Option SpecRequest) → SpecAsked t t' o x → Adds t t' o (λ r k. SpecAsks k r) x
  unfolding carry
  spec_adds o q = record {
    names = spec_names q.c q.ps q.vs;
    numbered = λ u. spec_numbered u q.c q.ps q.vs q.s;
    is = λ s. ap (carry s) q.is;
    placed = q.room;
    tables = q.tables;
    asks = q.asks;
  }

  pub mod_adds : (o : Option ModRequest) → ModAsked t t' o x → Adds t t' o (λ r k. ModAsks k r) x
  unfolding carry
  mod_adds o q = record {
    names = mod_names q.c q.is;
    numbered = λ u. mod_numbered u q.c q.is;
    is = λ s. ap (carry s) q.said;
    placed = q.room;
    tables = q.tables;
    asks = q.asks;
  }

  pub sys_adds : (o : Option SysRequest) → SysAsked t t' o x → Adds t t' o (λ r k. SysAsks k r) x
  unfolding carry
  sys_adds o q = record {
    names = sys_names q.c q.us q.ks;
    numbered = λ u. sys_numbered u q.c q.us q.ks;
    is = λ s. ap (carry s) q.said;
    placed = q.room;
    tables = q.tables;
    asks = q.asks;
  }

  pub modvar_adds : (o : Option ModvarRequest) → ModvarAsked t t' o x → Adds t t' o (λ r k. ModvarAsks k r) x
  unfolding carry
  modvar_adds o q = record {
    names = modvar_names q.c q.v q.rs q.i;
    numbered = λ u. modvar_numbered u q.c q.v q.rs q.i;
    is = λ s. ap (carry s) q.said;
    placed = q.room;
    tables = q.tables;
    asks = q.asks;
  }

  pub sysvar_adds : (o : Option SysvarRequest) → SysvarAsked t t' o x → Adds t t' o (λ r k. SysvarAsks k r) x
  unfolding carry
  sysvar_adds o q = record {
    names = sysvar_names q.c q.v q.ms;
    numbered = λ u. sysvar_numbered u q.c q.v q.ms;
    is = λ s. ap (carry s) q.said;
    placed = q.room;
    tables = q.tables;
    asks = q.asks;
  }

-- ---- what was answered

module _ (s n : List ℕ) (a : ℕ) (s' n' : List ℕ) where
  abbrev Answered : Command → Type 0
  Answered k = Called s n k a s' n'

  pub spec_called : (r : SpecRequest)
      → ((ps : List ℕ) (vs : List (ℕ × List ℕ)) → each_below facilities ps ≡ true → set_of ps ≡ bit r.provided → sets_view r.versions ≡ sets_of vs
      → Called s n (ADD-SPEC r.component ps vs r.standard) a s' n')
      → (k : Command) → SpecAsks k r → Called s n k a s' n'
  spec_called r h k q = subst Answered (sym q.is) (h q.facs q.list q.below q.provided q.versions)

  pub mod_called : (r : ModRequest)
      → ((is : List (ℕ × ℕ)) → numbers_view r.versions ≡ numbers_of is → Called s n (ADD-MOD r.component is) a s' n')
      → (k : Command) → ModAsks k r → Called s n k a s' n'
  mod_called r h k q = subst Answered (sym q.is) (h q.list q.versions)

  pub sys_called : (r : SysRequest)
      → ((us : List ℕ) (ks : List (ℕ × Members)) → usable_view r.usable ≡ usable_of us → compositions_view r.versions ≡ compositions_of ks
      → Called s n (ADD-SYS r.component us ks) a s' n')
      → (k : Command) → SysAsks k r → Called s n k a s' n'
  sys_called r h k q = subst Answered (sym q.is) (h q.usables q.list q.usable q.versions)

  pub modvar_called : (r : ModvarRequest)
      → ((rs : List ℕ) → each_below facilities rs ≡ true → set_of rs ≡ bit r.required
      → Called s n (ADD-MODVAR r.component r.version rs r.implementation) a s' n')
      → (k : Command) → ModvarAsks k r → Called s n k a s' n'
  modvar_called r h k q = subst Answered (sym q.is) (h q.facs q.below q.required)

  pub sysvar_called : (r : SysvarRequest)
      → ((ms : Members) → composition_view r.composition ≡ members_of ms → Called s n (ADD-SYSVAR r.component r.version ms) a s' n')
      → (k : Command) → SysvarAsks k r → Called s n k a s' n'
  sysvar_called r h k q = subst Answered (sym q.is) (h q.list q.composition)
