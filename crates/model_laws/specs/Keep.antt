-- Each of the ten commands keeps a book good.
use Rattle.std.specs.Prelude.{◌≡◌}
use Rattle.model.specs.Book.{Book}
use Rattle.model.specs.Commands.{ADD-MOD, ADD-MODVAR, ADD-SPEC, ADD-SYS, ADD-SYSVAR, Command, DEL-MOD, DEL-MODVAR, DEL-SPEC}
use Rattle.model.specs.Commands.{DEL-SYS, DEL-SYSVAR, after}
use Rattle.model.specs.PlainBook.{answer}
use Rattle.model_laws.specs.Good.{Good}
use Rattle.model_laws.specs.KeepDelSpec.{del_spec}
use Rattle.model_laws.specs.KeepModules.{add_mod, del_mod}
use Rattle.model_laws.specs.KeepModvar.{add_modvar, del_modvar}
use Rattle.model_laws.specs.KeepSpec.{add_spec}
use Rattle.model_laws.specs.KeepSystems.{add_sys, del_sys}
use Rattle.model_laws.specs.KeepSysvar.{add_sysvar, del_sysvar}

pub accepted : (b : Book) (k : Command) → Good b → answer b k ≡ 0 → Good (after b k)
accepted b (ADD-SPEC c ps vs s) g h = add_spec b c ps vs s g h
accepted b (ADD-MOD c is) g h = add_mod b c is g h
accepted b (ADD-SYS c us ks) g h = add_sys b c us ks g h
accepted b (DEL-SPEC c) g h = del_spec b c g h
accepted b (DEL-MOD c) g h = del_mod b c g h
accepted b (DEL-SYS c) g h = del_sys b c g h
accepted b (ADD-MODVAR c v rs i) g h = add_modvar b c v rs i g h
accepted b (ADD-SYSVAR c v ms) g h = add_sysvar b c v ms g h
accepted b (DEL-MODVAR c v) g h = del_modvar b c v g h
accepted b (DEL-SYSVAR c v) g h = del_sysvar b c v g h
