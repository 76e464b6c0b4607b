use Rattle.std.proofs.Common.{Some, ◌∙◌, ◌≡◌, ap, option_map, refl, rules}
use Rattle.std.proofs.Math.Option.{some}
use Rattle.sets.specs.Answered.{answered}
use Rattle.read_sys.specs.MemberLaws.{member_alone, member_no_version, member_with_version, version_held}
use Rattle.read_sys.specs.MemberSteps.{VersionTaken, add_member, member_state}
use Rattle.read_sys.proofs.MembersEntries.take.Goals as goal

pub returns-then-not-passes_mark : goal.returns-then-not-passes_mark
unfolding member_state VersionTaken answered
returns-then-not-passes_mark c =
    member_alone c.args.reader.now c.take_name.new.reader c.passes_mark.new.self _ c.in_ok-c.ensures c.if-not-passes_mark.ensures _
    (λ x e. record { place = _; enters = e; version = _; taken = (refl, refl); members = c.with_named_member.ensures })

pub returns-in_err-v : goal.returns-in_err-v
returns-in_err-v c =
    rw c.from_residual-in_err-v.ensures
    (member_no_version c.args.reader.now c.take_name.new.reader c.passes_mark.new.self _ c.in_ok-c.ensures c.if-not-passes_mark.ensures
    c.in_err-v.ensures.0)

pub returns : goal.returns
unfolding member_state VersionTaken
returns c =
    let held : c.map.result ≡ option_map Some c.in_ok-v.v = search rules in
    member_with_version c.args.reader.now c.take_name.new.reader c.passes_mark.new.self _ c.in_ok-c.ensures c.if-not-passes_mark.ensures
    c.take_name-2.new.reader _ c.in_ok-v.ensures _
    (λ x w e h. record {
      place = _;
      enters = e;
      version = option_map some c.in_ok-v.v;
      taken = (c.in_ok-v.v, h, refl);
      members = c.with_named_member-2.ensures ∙ ap (add_member _ c.in_ok-c.c) (ap (option_map answered) held ∙ version_held c.in_ok-v.v);
    })
