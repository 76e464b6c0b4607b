use Rattle.std.proofs.Common.{rules}
use Rattle.book.specs.Plain.{plain}
use Rattle.model.specs.Book.{is_module, specified}
use Rattle.names.specs.Stored.{tables}
use Rattle.text.specs.Written.{line, mod_of, spec_of}
use Rattle.write_bytes.specs.WritesLaws.{writes_as, writes_then}
use Rattle.write_book.specs.TextLaws.{text_is}
use Rattle.write_book.proofs.put_text.Goals as goal

pub returns : goal.returns
returns c =
    let b = plain c.args.book.now in
    let t = tables c.args.names.now in
    let d = c.those-specs.ensures (specified b.specs) (λ k r l p. search rules) in
    let e = c.those-modules.ensures (is_module b.modules) (λ k r l p. search rules) in
    writes_as (text_is _ _ _ _ _ d e)
    (writes_then (c.put_listed.ensures (λ k. line (spec_of b t k)) (λ a b k h p. search rules))
    (writes_then (c.put_listed-2.ensures (λ k. line (mod_of b t k)) (λ a b k h p. search rules)) c.put_systems.ensures))
