use Rattle.std.proofs.Common.{refl}
use Rattle.text.specs.Language.{add_sys, names}
use Rattle.read_tokens.specs.ListLaws.{each_on}
use Rattle.read_tokens.specs.SequenceLaws.{before_lacks, behind_lacks, behind_read, end_lacks, end_read, first_lacks}
use Rattle.read_tokens.specs.SequenceLaws.{give_read, next_lacks, next_read}
use Rattle.read_sys.specs.SysLaws.{behind_use, sys_asked, usables_start, use_read, versions_start}
use Rattle.read_sys.specs.SysSteps.{SysStep, UsableStep, sys_state, usable_state}
use Rattle.read_sys.proofs.read_sys.Goals as goal

pub returns-in_err-v : goal.returns-in_err-v
unfolding add_sys names
returns-in_err-v c = record {
  by_index = λ f i.
      let r = c.args.reader.now in let s = c.take_name.new.reader in let k = c.key.new.self in let u = c.take_list.new.reader in
      let m = c.mark.new.self in
      rw c.from_residual-in_err-v.ensures (
        next_lacks r s c.in_ok-c.ensures _ (λ x h. behind_use _ s k c.in_ok-key.ensures (next_lacks k u c.in_ok-u.ensures _ (λ us h.
            behind_lacks u m c.in_ok-mark.ensures _ (first_lacks _ m c.in_err-v.ensures.0 _)))),
        refl,
      );
}

pub returns-in_err-key-2 : goal.returns-in_err-key-2
unfolding add_sys names
returns-in_err-key-2 c = record {
  by_index = λ f i.
      let r = c.args.reader.now in let s = c.take_name.new.reader in let k = c.key.new.self in let u = c.take_list.new.reader in
      let m = c.mark.new.self in let v = c.take_list-2.new.reader in
      rw c.from_residual-in_err-key-2.ensures (
        next_lacks r s c.in_ok-c.ensures _ (λ x h. behind_use _ s k c.in_ok-key.ensures (next_lacks k u c.in_ok-u.ensures _ (λ us h.
            behind_lacks u m c.in_ok-mark.ensures _
            (next_lacks m v c.in_ok-v.ensures _ (λ ks h. before_lacks _ v (end_lacks v c.in_err-key-2.ensures.0) _))))),
        refl,
      );
}

pub returns : goal.returns
unfolding add_sys names
returns c = record {
  by_index = λ f i.
      let r = c.args.reader.now in let s = c.take_name.new.reader in let k = c.key.new.self in let u = c.take_list.new.reader in
      let m = c.mark.new.self in let v = c.take_list-2.new.reader in let z = c.key-2.new.self in
      next_read r s c.in_ok-c.ensures _ z (λ x e.
      behind_read s k (use_read s k c.in_ok-key.ensures) _ z
      (next_read k u c.in_ok-u.ensures _ z (λ us p.
      behind_read u m c.in_ok-mark.ensures _ z
      (next_read m v c.in_ok-v.ensures _ z (λ ks b.
      behind_read v z (end_read v z c.in_ok-key-2.ensures) _ z
      (give_read _ z (sys_asked c.args.tables.now c.take_list-2.new.table _ _ _ _ _ f i e
      (rw (usables_start _ c.none.result c.none.ensures) at (each_on (λ s. usable_state s.0.table.rows s.2.0) UsableStep _ _ us p))
      (rw (versions_start _ c.none-3.result c.none-3.ensures) at (each_on (λ s. sys_state s.0 s.2.0) SysStep _ _ ks b)) c.sys_request.ensures)))))));
}
