use Rattle.std.proofs.Common.{◌∙◌, sym}
use Rattle.std.specs.Str.{chars}
use Rattle.retype_request.proofs.Texts.{modified_here, name_here, none_here, owner_here}
use Rattle.retype_request.proofs.columns.system_name.Goals as goal

pub returns-then-same_name-3 : goal.returns-then-same_name-3
returns-then-same_name-3 c =
    modified_here c.args.is_detail (chars c.args.name.now) (sym c.same_name.ensures ∙ c.if-same_name.false) (sym c.same_name-else-same_name.ensures ∙ c.if-same_name-2.false) (sym c.same_name-else-same_name-2.ensures ∙ c.if-same_name-3.true)

pub returns-then-same_name-4 : goal.returns-then-same_name-4
returns-then-same_name-4 c =
    name_here c.args.is_detail (chars c.args.name.now) (sym c.same_name.ensures ∙ c.if-same_name.false) (sym c.same_name-else-same_name.ensures ∙ c.if-same_name-2.false) (sym c.same_name-else-same_name-2.ensures ∙ c.if-same_name-3.false)
    (sym c.same_name-else-same_name-3.ensures ∙ c.if-same_name-4.true)

pub returns-then-is_owner : goal.returns-then-is_owner
returns-then-is_owner c =
    owner_here c.args.is_detail (chars c.args.name.now) (sym c.same_name.ensures ∙ c.if-same_name.false) (sym c.same_name-else-same_name.ensures ∙ c.if-same_name-2.false) (sym c.same_name-else-same_name-2.ensures ∙ c.if-same_name-3.false)
    (sym c.same_name-else-same_name-3.ensures ∙ c.if-same_name-4.false) (sym c.is_owner.ensures ∙ c.if-is_owner.true)

pub returns-else-is_owner : goal.returns-else-is_owner
returns-else-is_owner c =
    none_here c.args.is_detail (chars c.args.name.now) (sym c.same_name.ensures ∙ c.if-same_name.false) (sym c.same_name-else-same_name.ensures ∙ c.if-same_name-2.false) (sym c.same_name-else-same_name-2.ensures ∙ c.if-same_name-3.false)
    (sym c.same_name-else-same_name-3.ensures ∙ c.if-same_name-4.false) (sym c.is_owner.ensures ∙ c.if-is_owner.false)
