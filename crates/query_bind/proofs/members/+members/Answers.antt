use Rattle.std.proofs.Common.{◌≡◌, ◌∙◌, ℕ, ◌++◌, ◌-◌, ◌<◌, ◌≤◌, List, [], ◌∷◌, Option, Some, ap, append-nil, arith, length, map, subst, sym}
use Rattle.std.specs.List.{list_any}
use Rattle.std.specs.Str.{chars}
use Rattle.soql.specs.declared.query.Item.TheVariants as item
use Rattle.query_plan.specs.paths.Branches.{FindsParent}
use Rattle.query_plan.specs.declared.paths.branches.Place.{Place}
use Rattle.query_plan.proofs.Branching.{added_twice}
use Rattle.query_plan.specs.declared.plan.Member.{Member}
use Rattle.query_bind.specs.inner.Members.{ShowsParent, ShowsPath, ShowsPaths, goes_behind}
use Rattle.query_bind.proofs.Behind.{Two, begun_shown, end_is, first_shown, no_parent, one_less, one_name, one_name_shown, parent_is, still_among, two_names}
use Rattle.query_bind.proofs.Showing.{all_shown, listed, one_shown}
use Rattle.query_plan.proofs.Within.{if_ok}
use Rattle.query_bind.proofs.members.+members.Goals.{bind_members-in-Some+in_ok-push, bind_members-in_default}
use Rattle.query_bind.proofs.members.+members.Goals as goal

pub bind_member-returns-then-some_goes_behind-clause-shows : goal.bind_member-returns-then-some_goes_behind-clause-shows
bind_member-returns-then-some_goes_behind-clause-shows t c =
    let name = c.name-item-2.result in
    let before = c.args.before.now in
    let two : Two c.args.path.now.names name = subst (λ (ns : List (List ℕ)). Two ns name) c.as_slice.ensures (two_names c.as_slice.result.now name c.in-len1-up.len_at_least c.name-item-2.is) in
    begun_shown c.args.layouts.now c.args.from c.args.depth c.args.path.now before c.args.all.now c.args.branches.now.items name two
    (sym (c.some_goes_behind.ensures ∙ ap (λ (n : List ℕ). list_any (goes_behind n) before) c.as_str.ensures.characters) ∙ c.if-some_goes_behind.true)

pub bind_member-returns-in_ok-field_member-in-len1-clause-shows : goal.bind_member-returns-in_ok-field_member-in-len1-clause-shows
bind_member-returns-in_ok-field_member-in-len1-clause-shows t c =
    let name = c.name-item.result in
    let path = c.args.path.now in
    let bs = c.args.branches.now.items in
    let one : path.names ≡ name ∷ [] = sym c.as_slice.ensures ∙ one_name c.as_slice.result.now name c.in-len1.len_at_least c.in-len1.len_below c.name-item.is in
    subst (λ (m : Member). ShowsPath c.args.layouts.now c.args.from c.args.depth path c.args.before.now c.args.all.now bs (Some m)) (sym c.in_ok-field_member-in-len1.ensures)
    (one_name_shown c.args.layouts.now c.args.from c.args.depth path c.args.before.now c.args.all.now bs name one)

pub bind_member-returns-else-some_goes_behind-clause-shows : goal.bind_member-returns-else-some_goes_behind-clause-shows
bind_member-returns-else-some_goes_behind-clause-shows t c =
    let name = c.name-item-2.result in
    let ls = c.args.layouts.now in
    let from = c.args.from in
    let depth = c.args.depth in
    let path = c.args.path.now in
    let before = c.args.before.now in
    let all = c.args.all.now in
    let bs = c.bind_parent.new.branches.items in
    let two : Two path.names name = subst (λ (ns : List (List ℕ)). Two ns name) c.as_slice.ensures (two_names c.as_slice.result.now name c.in-len1-up.len_at_least c.name-item-2.is) in
    let new = sym (c.some_goes_behind.ensures ∙ ap (λ (n : List ℕ). list_any (goes_behind n) before) c.as_str.ensures.characters) ∙ c.if-some_goes_behind.false in
    if_ok {P = λ (m : Option Member). ShowsParent ls from depth (chars c.as_str-in-len1-up.result.now) all bs m}
    {Q = λ (m : Option Member). ShowsPath ls from depth path before all bs m} c.bind_parent.result
    (λ m h. first_shown ls from depth path before all bs name two new m (subst (λ (n : List ℕ). ShowsParent ls from depth n all bs m) c.as_str-in-len1-up.ensures.characters h))
    c.bind_parent.ensures.shows

pub bind_members-loop-number-preserved : goal.bind_members-loop-number-preserved
bind_members-loop-number-preserved t c =
    let ls = c.args.layouts.now in
    let paths = c.args.paths.now in
    let i = c.loop-number.number in
    let m = c.in_ok-member.field-0 in
    let ms = c.loop-number.members.items in
    let lt : i < length paths = omega (arith, c.loop-number-test.true) in
    let pushed : c.match-branch-2.members.items ≡ ms ++ listed m =
    elim c.match-branch-2.branch [
      | bind_members-in-Some+in_ok-push w ↦ ap (λ v. v.items) w.members-is ∙ w.in_ok-push.ensures.items ∙ ap (λ (o : Option Member). ms ++ listed o) (sym w.in-Some.is)
      | bind_members-in_default w ↦ ap (λ v. v.items) w.members-is ∙ sym (append-nil ms) ∙ ap (λ (o : Option Member). ms ++ listed o) (sym w.in_default.is)
    ] in
    record {
      grown = added_twice _ _ _ c.loop-number.invariant.grown c.bind_member.ensures.grows;
      among = still_among c.loop-number.branches.items c.bind_member.new.branches.items c.args.from.branch c.bind_member.ensures.grows c.loop-number.invariant.among;
      so_far = one_shown ls c.args.from c.args.depth paths c.loop-number.branches.items c.bind_member.new.branches.items c.bind_member.ensures.grows i c.index-paths-number.result ms
          c.match-branch-2.members.items m lt c.index-paths-number.is pushed c.in_ok-member.ensures.shows c.loop-number.invariant.so_far;
    }

pub bind_members-returns-clause-shows : goal.bind_members-returns-clause-shows
bind_members-returns-clause-shows t c =
    let ls = c.args.layouts.now in
    let paths = c.args.paths.now in
    let bs = c.loop-number.branches.items in
    let le : length paths ≤ c.loop-number.number = omega (arith, c.loop-number-test.false) in
    subst (λ (ms : List Member). ShowsPaths ls c.args.from c.args.depth paths bs ms) (sym c.from_vec.ensures)
    (all_shown ls c.args.from c.args.depth paths c.loop-number.number bs c.loop-number.members.items le c.loop-number.invariant.so_far)

pub bind_parent-returns-in_default-clause-shows : goal.bind_parent-returns-in_default-clause-shows
bind_parent-returns-in_default-clause-shows t c s shows r p sees all next names d there more at =
    let name = chars c.args.name.now in
    let finds = c.in_ok-place.ensures.finds s.org s.plan s.asked.tenant all sees.own.laid sees.own.sound in
    let none = subst (λ (o : Option Place). FindsParent s.plan s.asked.tenant c.args.from name c.step_from.new.branches.items o) c.in_default.is finds in
    absurd (no_parent s shows c.args.layouts.now c.args.from p c.args.all.now name next names d sees all none there)

pub bind_parent-returns-then-depth-eq0-clause-shows : goal.bind_parent-returns-then-depth-eq0-clause-shows
bind_parent-returns-then-depth-eq0-clause-shows t c s shows r p sees all next names d there more at =
    let name = chars c.args.name.now in
    let first = c.step_from.new.branches.items in
    let finds = c.in_ok-place.ensures.finds s.org s.plan s.asked.tenant all sees.own.laid sees.own.sound in
    let lead = subst (λ (o : Option Place). FindsParent s.plan s.asked.tenant c.args.from name first o) c.in-Some.is finds in
    end_is s shows c.args.layouts.now c.args.from c.in-Some.place r p name c.args.all.now first lead sees c.in_ok-declared.declared c.unwrap_or-branch.result
    c.in_ok-declared.ensures c.unwrap_or-branch.ensures c.args.depth c.if-depth-eq0.true more at

pub bind_parent-returns-clause-shows : goal.bind_parent-returns-clause-shows
bind_parent-returns-clause-shows t c s shows r p sees all next names d there more at =
    let name = chars c.args.name.now in
    let depth = c.args.depth in
    let first = c.step_from.new.branches.items in
    let bs = c.bind_members.new.branches.items in
    let finds = c.in_ok-place.ensures.finds s.org s.plan s.asked.tenant all sees.own.laid sees.own.sound in
    let lead = subst (λ (o : Option Place). FindsParent s.plan s.asked.tenant c.args.from name first o) c.in-Some.is finds in
    parent_is s shows c.args.layouts.now c.args.from c.in-Some.place r p name c.args.all.now first lead sees c.in_ok-declared.declared c.unwrap_or-branch.result
    c.in_ok-declared.ensures c.unwrap_or-branch.ensures all depth (depth - 1) (one_less depth c.if-depth-eq0.false)
    c.in_ok-object.object c.in_ok-object.ensures c.as_slice.result.now (ap (map item.Path) c.as_slice.ensures ∙ c.in_ok-behind.ensures) bs c.bind_members.ensures.grows
    c.in_ok-members.members c.in_ok-members.ensures.shows more at
