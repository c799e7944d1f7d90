use Rattle.std.proofs.Common.{Option, Some, ap, codes, cond, sym, ◌∙◌}
use Rattle.std.specs.Prelude.{bytes_eq}
use Rattle.api.specs.declared.kind.Kind.{Kind}
use Rattle.api.specs.declared.kind.Kind.TheVariants.{To}
use Rattle.api.specs.declared.place.Place.{Place}
use Rattle.api.specs.declared.route_kind.RouteKind.TheVariants as route_kind
use Rattle.api.specs.inner.Kinds.{kind_in, kind_lines}
use Rattle.api.proofs.methods.kind_at.Goals as goal

pub returns-in-Record : goal.returns-in-Record
unfolding kind_lines
returns-in-Record c =
    let m = c.args.method.now in
    c.way-in-Record-2.ensures
    ∙ ap (λ (o : Option Kind). cond (bytes_eq m (codes "PATCH")) (Some (To route_kind.Update)) o)
    (c.way-in-Record.ensures ∙ ap (λ (o : Option Kind). cond (bytes_eq m (codes "DELETE")) (Some (To route_kind.Delete)) o) c.get-in-Record.ensures)
    ∙ sym (ap (λ (p : Place). kind_in m p kind_lines) c.in-Record.is)

pub returns-in-External : goal.returns-in-External
unfolding kind_lines
returns-in-External c =
    let m = c.args.method.now in
    c.way-in-External.ensures
    ∙ ap (λ (o : Option Kind). cond (bytes_eq m (codes "PATCH")) (Some (To route_kind.Upsert)) o) c.get-in-External.ensures
    ∙ sym (ap (λ (p : Place). kind_in m p kind_lines) c.in-External.is)

pub returns-in-Role : goal.returns-in-Role
unfolding kind_lines
returns-in-Role c =
    let m = c.args.method.now in
    c.way-in-Role-2.ensures
    ∙ ap (λ (o : Option Kind). cond (bytes_eq m (codes "PATCH")) (Some (To route_kind.SetRole)) o) c.way-in-Role.ensures
    ∙ sym (ap (λ (p : Place). kind_in m p kind_lines) c.in-Role.is)

pub returns-in-Group : goal.returns-in-Group
unfolding kind_lines
returns-in-Group c =
    let m = c.args.method.now in
    c.way-in-Group-2.ensures
    ∙ ap (λ (o : Option Kind). cond (bytes_eq m (codes "PATCH")) (Some (To route_kind.SetGroup)) o) c.way-in-Group.ensures
    ∙ sym (ap (λ (p : Place). kind_in m p kind_lines) c.in-Group.is)
