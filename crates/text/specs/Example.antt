-- The example of document 01 byte for byte, and Fig. 1 of the monograph, computed.
use Rattle.std.specs.Prelude.{List, [], ◌++◌, ◌∷◌, map, ◌≡◌, refl}
use Prim.Native.String.{String}
use Rattle.model.specs.Teaching.{everything}
use Rattle.text.specs.Bytes.{Text, alnum, among, bytes, impl_byte, is_mark, keywords, name_byte, name_word, same, short}
use Rattle.text.specs.Bytes.{valid_implementation, valid_name, white}
use Rattle.text.specs.Handed.{component_named, names_hold, none_twice, version_named}
use Rattle.text.specs.Language.{◌>>=◌, ◌>>◌, add_mod, add_modvar, add_spec, add_sys, add_sysvar, ahead, ahead_of, by_word}
use Rattle.text.specs.Language.{choice, command, command_of, compo, compos, give, grammar, imp, key, list_in, list_of}
use Rattle.text.specs.Language.{mod_version, name, name_of, names, names_up_to, of_one, of_pair, pair, quoted_of, read_as}
use Rattle.text.specs.Language.{requirements, spec_version, standards, sys_version, the_one, want, want_of, when}
use Rattle.text.specs.LentSlice.{fits_in, host_fits, host_result, host_slice, listing_in, prints, slice_after, state_after}
use Rattle.text.specs.SameByNames.{accepted, at, holds}
use Rattle.text.specs.Session.{add, afterwards, asked, carry, decided, decimal, digits, for_component, for_pair, lines}
use Rattle.text.specs.Session.{of_component, of_version, on_read, pair_row, row, session, session_from, shown, told}
use Rattle.text.specs.Tables.{enter, entered, fits, given, joined, member_names, member_versions, mod_names, mod_numbered}
use Rattle.text.specs.Tables.{modvar_names, modvar_numbered, name_at, number, numbered_members, numbers, place, spec_names}
use Rattle.text.specs.Tables.{spec_numbered, sys_names, sys_numbered, sysvar_names, sysvar_numbered}
use Rattle.text.specs.Tokens.{closing, is_token, next_token, past, run, skip, skipped, token_at}
use Rattle.text.specs.Written.{as_commands, before, by_name, commas, facility_names, first_of, insert, line, member_piece}
use Rattle.text.specs.Written.{members_of, mod_of, mod_piece, parted, ready, requiring, semicolons, sorted, spec_of, spec_piece}
use Rattle.text.specs.Written.{sys_of, sys_piece, systems_from, systems_in_order, written}

-- To unfold this is to unfold all that computes.
unfoldable pub all_of_text : Unit {0}
unfolding
    everything
    bytes same among white alnum name_byte impl_byte is_mark short keywords name_word valid_name valid_implementation
    skip run past closing token_at skipped next_token is_token
    ◌>>=◌ ◌>>◌ give when ahead_of ahead want_of want name_of name quoted_of imp list_in list_of key names names_up_to pair requirements
    spec_version standards the_one add_spec mod_version add_mod compo compos sys_version add_sys add_modvar add_sysvar choice of_one of_pair
    grammar read_as by_word command_of command
    name_at place number enter entered fits joined given member_names member_versions spec_names mod_names sys_names modvar_names sysvar_names
    numbers numbered_members spec_numbered mod_numbered sys_numbered modvar_numbered sysvar_numbered
    parted commas semicolons requiring spec_piece mod_piece member_piece sys_piece line before insert sorted by_name facility_names spec_of
    mod_of members_of sys_of ready first_of systems_from systems_in_order as_commands written
    decided told add for_component for_pair pair_row shown asked of_component of_version carry afterwards digits decimal row lines on_read
    session_from session
    at holds accepted none_twice version_named component_named names_hold fits_in listing_in slice_after state_after host_fits host_result
    host_slice prints
all_of_text = tt

-- lines of text, each ended by a line feed
abbrev pub page : List String → Text
page ls = joined (map (λ l. bytes l ++ bytes "\n") ls)

-- ---- document 01's example

abbrev pub example_input : Text
example_input = page (
    "spec probe provides temp; std one end" ∷
    "spec valve provides cool; std v2 requires temp end" ∷
    "spec loop provides hold; std p requires temp, cool end" ∷
    "spec tank provides hold; std a end" ∷
    "sys tank use loop, probe, valve; a = loop, probe, valve end" ∷
    "parts tank.a" ∷
    "out" ∷ [])

abbrev pub example_printed : Text
example_printed = page (
    "1,0" ∷
    "2,0" ∷
    "3,0" ∷
    "4,0" ∷
    "5,0" ∷
    "6,0" ∷
    "6,probe,one" ∷
    "6,valve,v2" ∷
    "6,loop,p" ∷
    "6,tank,a" ∷
    "7,0" ∷
    "spec loop provides hold; std p requires cool, temp end" ∷
    "spec probe provides temp; std one end" ∷
    "spec tank provides hold; std a end" ∷
    "spec valve provides cool; std v2 requires temp end" ∷
    "sys tank use loop, probe, valve; a = loop.p, probe.one, valve.v2 end" ∷ [])

pub example : prints example_input ≡ example_printed
unfolding all_of_text
example = refl

-- ---- Fig. 1 of the monograph

abbrev figure_input : Text
figure_input = page (
    "spec DiscScheduler provides schedule, service;" ∷
    "    FCFS;" ∷
    "    std SSTF" ∷
    "end {spec DiscScheduler}" ∷
    "" ∷
    "spec ds provides schedule, service;" ∷
    "    FCFS requires rcb, dequeue, queue, enqueue;" ∷
    "    std SSTF requires rcb, list, remove, inspect, insert" ∷
    "end {spec ds}" ∷
    "" ∷
    "spec rcbqueue provides dequeue, queue, enqueue;" ∷
    "    std staticq requires rcb;" ∷
    "    dynamicq requires rcb" ∷
    "end {spec rcbqueue}" ∷
    "" ∷
    "spec rcblist provides list, remove, inspect, insert, position;" ∷
    "    std slist requires rcb" ∷
    "end {spec rcblist}" ∷
    "" ∷
    "{ MODULES }" ∷
    "" ∷
    "mod ds;" ∷
    "    FCFS impl \"/usr/ian/svcd/fcfs.ada.make\";" ∷
    "    SSTF impl \"/usr/ian/svcd/sstf.ada.make\"" ∷
    "end {mod ds}" ∷
    "" ∷
    "mod rcbqueue;" ∷
    "    staticq impl \"/usr/ian/svcd/sq.ada.make\";" ∷
    "    dynamicq impl \"/usr/ian/svcd/dq.ada.make\"" ∷
    "end {mod rcbqueue}" ∷
    "" ∷
    "mod rcblist;" ∷
    "    slist impl \"/usr/ian/svcd/sl.ada.make\"" ∷
    "end {mod rcblist}" ∷
    "" ∷
    "{ SYSTEMS }" ∷
    "" ∷
    "sys DiscScheduler" ∷
    "    use ds, rcbqueue, rcblist;" ∷
    "    FCFS = ds.FCFS, rcbqueue;" ∷
    "    SSTF = ds, rcblist" ∷
    "end {sys DiscScheduler}" ∷
    "out" ∷ [])

abbrev figure_printed : Text
figure_printed = page (
    "1,0" ∷
    "2,0" ∷
    "3,0" ∷
    "4,0" ∷
    "5,0" ∷
    "6,0" ∷
    "7,0" ∷
    "8,0" ∷
    "9,0" ∷
    "spec DiscScheduler provides schedule, service; FCFS; std SSTF end" ∷
    "spec ds provides schedule, service; FCFS requires dequeue, enqueue, queue, rcb; std SSTF requires insert, inspect, list, rcb, remove end" ∷
    "spec rcblist provides insert, inspect, list, position, remove; std slist requires rcb end" ∷
    "spec rcbqueue provides dequeue, enqueue, queue; dynamicq requires rcb; std staticq requires rcb end" ∷
    "mod ds; FCFS impl \"/usr/ian/svcd/fcfs.ada.make\"; SSTF impl \"/usr/ian/svcd/sstf.ada.make\" end" ∷
    "mod rcblist; slist impl \"/usr/ian/svcd/sl.ada.make\" end" ∷
    "mod rcbqueue; dynamicq impl \"/usr/ian/svcd/dq.ada.make\"; staticq impl \"/usr/ian/svcd/sq.ada.make\" end" ∷
    "sys DiscScheduler use ds, rcblist, rcbqueue; FCFS = ds.FCFS, rcbqueue.staticq; SSTF = ds.SSTF, rcblist.slist end" ∷ [])

pub figure : prints figure_input ≡ figure_printed
unfolding all_of_text
figure = refl
