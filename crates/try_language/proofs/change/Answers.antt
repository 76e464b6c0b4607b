use Rattle.std.proofs.Common.{[]}
use Rattle.read_tokens.specs.Entering.{four}
use Rattle.read_tokens.specs.Requested.{ModAsked, SpecAsked, SysAsked, SysvarAsked}
use Rattle.text.specs.Language.{add_mod, add_spec, add_sys, add_sysvar}
use Rattle.try_language.specs.KeptLaws.{text_kept}
use Rattle.try_language.proofs.change.Goals as goal

pub returns-in-AddSpec : goal.returns-in-AddSpec
returns-in-AddSpec c =
    let t = c.args.tables.now in
    let u = c.read_spec-read.new in
    text_kept add_spec (SpecAsked (four t.pairs t.facs.table.rows []) (four u.tables u.facs.table.rows [])) c.args.reader.now u.reader
    c.read_spec-read.result (c.read_spec-read.ensures [])

pub returns-in-AddMod : goal.returns-in-AddMod
returns-in-AddMod c =
    let t = c.args.tables.now in
    let u = c.read_mod-read.new in
    text_kept add_mod (ModAsked (four t.pairs [] t.impls.table.rows) (four u.tables [] u.impls.table.rows)) c.args.reader.now u.reader
    c.read_mod-read.result (c.read_mod-read.ensures.by_index [])

pub returns-in-AddSys : goal.returns-in-AddSys
returns-in-AddSys c =
    let u = c.read_sys-read.new in
    text_kept add_sys (SysAsked (four c.args.tables.now.pairs [] []) (four u.tables [] [])) c.args.reader.now u.reader
    c.read_sys-read.result (c.read_sys-read.ensures.by_index [] [])

pub returns-in-AddSysvar : goal.returns-in-AddSysvar
returns-in-AddSysvar c =
    let u = c.read_sysvar-read.new in
    text_kept add_sysvar (SysvarAsked (four c.args.tables.now.pairs [] []) (four u.tables [] [])) c.args.reader.now u.reader
    c.read_sysvar-read.result (c.read_sysvar-read.ensures.by_index [] [])
