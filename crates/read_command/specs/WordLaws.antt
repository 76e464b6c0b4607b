-- The names of deletions and queries: a law for each way out of the code.
use Rattle.std.specs.Prelude.{None, Option, Some}
use Rattle.std.proofs.Common.{ap, ap₂}
use Rattle.model.specs.Maps.{and_then}
use Rattle.text.specs.Bytes.{Text}
use Rattle.text.specs.Language.{Name, Said, ◌>>=◌, give, name, of_one, of_pair, pair, point, want}
use Rattle.read_tokens.specs.Ahead.{Gives, IsWord}
use Rattle.read_tokens.specs.Readers.{Any}
use Rattle.read_tokens.specs.SequenceLaws.{Read, behind_read, give_read, next_read}
use Rattle.read_tokens.specs.TakeLaws.{name_short}
use Rattle.read_tokens.specs.declared.reader.Reader.{Reader}
use Rattle.read_command.specs.Words.{OneSaid, PairSaid}
use Rattle.read_command.specs.declared.Pair.{Pair}

pub one_said : (r s : Reader) (o : Option Text) → Gives name IsWord r s o → (f : Name → Said) → Gives (of_one f) (OneSaid f) r s o
unfolding of_one ◌>>=◌ and_then give
one_said r s None n f = (rw n.0, n.1)
one_said r s (Some w) g f = (
  record {
    value = f g.0.value;
    is = rw g.0.is;
    took = record { is = ap f g.0.took.is; fits = name_short r.text.now r.at s.at w g.0 };
    from = g.0.from;
    inside = g.0.inside;
  },
  g.1,
)

pub pair_said : (f : Name → Name → Said) (p : Pair) (r s u z : Reader) → Read name (IsWord p.component.now) r s → Read (want point) Any s u
    → Read name (IsWord p.version.now) u z → Read (of_pair f) (PairSaid f p) r z
unfolding of_pair pair
pair_said f p r s u z n k v =
    let both : Read pair (λ x. IsWord p.component.now x.0 × IsWord p.version.now x.1) r z =
    next_read r s n _ z (λ c g. behind_read s u k _ z (next_read u z v _ z (λ w h. give_read (c, w) z (g, h)))) in
    next_read r z both _ z (λ x h. give_read (f x.0 x.1) z (record {
      is = ap₂ f h.0.is h.1.is;
      component_fits = name_short r.text.now r.at s.at p.component.now n.0;
      version_fits = name_short u.text.now u.at z.at p.version.now v.0;
    }))
