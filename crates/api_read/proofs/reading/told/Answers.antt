use Rattle.std.proofs.Common.{Ok, refl}
use Rattle.store_kv.specs.Draft.{tables_of}
use Rattle.api_read.specs.Tells.{IsAsker}
use Rattle.model_reads.specs.CallerJson.{resources_json, versions_json}
use Rattle.api_read.proofs.Askers.{calls_none, calls_so, tells_so}
use Rattle.api_read.proofs.reading.told.Goals as goal

pub returns-in-Caller-clause-tells : goal.returns-in-Caller-clause-tells
returns-in-Caller-clause-tells g c told =
    tells_so c.args.caller.now (tables_of g.K.Keeper.state c.args.draft.now) c.args.read.now _ c.user.result c.in-Caller.is
    (λ q a s asker. c.user.ensures.tells told q a s asker.user)

pub returns-in-Caller-clause-calls : goal.returns-in-Caller-clause-calls
returns-in-Caller-clause-calls g c =
    calls_so g.K.Keeper.state c.args.read.now _ c.user.result c.args.draft.now c.user.new.draft c.in-Caller.is c.user.ensures.calls

pub returns-in-People-clause-tells : goal.returns-in-People-clause-tells
returns-in-People-clause-tells g c told =
    tells_so c.args.caller.now (tables_of g.K.Keeper.state c.args.draft.now) c.args.read.now _ c.people.result c.in-People.is
    (λ q a s asker. c.people.ensures.tells told q a.tenant s)

pub returns-in-People-clause-calls : goal.returns-in-People-clause-calls
returns-in-People-clause-calls g c =
    calls_so g.K.Keeper.state c.args.read.now _ c.people.result c.args.draft.now c.people.new.draft c.in-People.is c.people.ensures.calls

pub returns-in-Limits-clause-tells : goal.returns-in-Limits-clause-tells
returns-in-Limits-clause-tells g c told =
    tells_so c.args.caller.now (tables_of g.K.Keeper.state c.args.draft.now) c.args.read.now _ c.limits.result c.in-Limits.is
    (λ q a s asker. c.limits.ensures.tells told q a.tenant s)

pub returns-in-Limits-clause-calls : goal.returns-in-Limits-clause-calls
returns-in-Limits-clause-calls g c =
    calls_so g.K.Keeper.state c.args.read.now _ c.limits.result c.args.draft.now c.limits.new.draft c.in-Limits.is c.limits.ensures.calls

pub returns-in-Objects-clause-tells : goal.returns-in-Objects-clause-tells
returns-in-Objects-clause-tells g c told =
    tells_so c.args.caller.now (tables_of g.K.Keeper.state c.args.draft.now) c.args.read.now _ c.objects.result c.in-Objects.is
    (λ q a s asker. c.objects.ensures.tells told q a.tenant s)

pub returns-in-Objects-clause-calls : goal.returns-in-Objects-clause-calls
returns-in-Objects-clause-calls g c =
    calls_so g.K.Keeper.state c.args.read.now _ c.objects.result c.args.draft.now c.objects.new.draft c.in-Objects.is c.objects.ensures.calls

pub returns-in-Object-clause-tells : goal.returns-in-Object-clause-tells
returns-in-Object-clause-tells g c told =
    tells_so c.args.caller.now (tables_of g.K.Keeper.state c.args.draft.now) c.args.read.now _ c.object_named.result c.in-Object.is
    (λ q a s asker. c.object_named.ensures.tells told q a.tenant s)

pub returns-in-Object-clause-calls : goal.returns-in-Object-clause-calls
returns-in-Object-clause-calls g c =
    calls_so g.K.Keeper.state c.args.read.now _ c.object_named.result c.args.draft.now c.object_named.new.draft c.in-Object.is c.object_named.ensures.calls

pub returns-in-Users-clause-tells : goal.returns-in-Users-clause-tells
returns-in-Users-clause-tells g c told =
    tells_so c.args.caller.now (tables_of g.K.Keeper.state c.args.draft.now) c.args.read.now _ c.users.result c.in-Users.is
    (λ q a s asker. c.users.ensures.tells told q a.tenant s)

pub returns-in-Users-clause-calls : goal.returns-in-Users-clause-calls
returns-in-Users-clause-calls g c =
    calls_so g.K.Keeper.state c.args.read.now _ c.users.result c.args.draft.now c.users.new.draft c.in-Users.is c.users.ensures.calls

pub returns-in-Roles-clause-tells : goal.returns-in-Roles-clause-tells
returns-in-Roles-clause-tells g c told =
    tells_so c.args.caller.now (tables_of g.K.Keeper.state c.args.draft.now) c.args.read.now _ c.roles.result c.in-Roles.is
    (λ q a s asker. c.roles.ensures.tells told q a.tenant s)

pub returns-in-Roles-clause-calls : goal.returns-in-Roles-clause-calls
returns-in-Roles-clause-calls g c =
    calls_so g.K.Keeper.state c.args.read.now _ c.roles.result c.args.draft.now c.roles.new.draft c.in-Roles.is c.roles.ensures.calls

pub returns-in-Groups-clause-tells : goal.returns-in-Groups-clause-tells
returns-in-Groups-clause-tells g c told =
    tells_so c.args.caller.now (tables_of g.K.Keeper.state c.args.draft.now) c.args.read.now _ c.groups.result c.in-Groups.is
    (λ q a s asker. c.groups.ensures.tells told q a.tenant s)

pub returns-in-Groups-clause-calls : goal.returns-in-Groups-clause-calls
returns-in-Groups-clause-calls g c =
    calls_so g.K.Keeper.state c.args.read.now _ c.groups.result c.args.draft.now c.groups.new.draft c.in-Groups.is c.groups.ensures.calls

pub returns-in-SharingRules-clause-tells : goal.returns-in-SharingRules-clause-tells
returns-in-SharingRules-clause-tells g c told =
    tells_so c.args.caller.now (tables_of g.K.Keeper.state c.args.draft.now) c.args.read.now _ c.sharing_rules.result c.in-SharingRules.is
    (λ q a s asker. c.sharing_rules.ensures.tells told q a.tenant s)

pub returns-in-SharingRules-clause-calls : goal.returns-in-SharingRules-clause-calls
returns-in-SharingRules-clause-calls g c =
    calls_so g.K.Keeper.state c.args.read.now _ c.sharing_rules.result c.args.draft.now c.sharing_rules.new.draft c.in-SharingRules.is c.sharing_rules.ensures.calls

pub returns-in-ObjectSettings-clause-tells : goal.returns-in-ObjectSettings-clause-tells
returns-in-ObjectSettings-clause-tells g c told =
    tells_so c.args.caller.now (tables_of g.K.Keeper.state c.args.draft.now) c.args.read.now _ c.object_settings.result c.in-ObjectSettings.is
    (λ q a s asker. c.object_settings.ensures.tells told q a.tenant s)

pub returns-in-ObjectSettings-clause-calls : goal.returns-in-ObjectSettings-clause-calls
returns-in-ObjectSettings-clause-calls g c =
    calls_so g.K.Keeper.state c.args.read.now _ c.object_settings.result c.args.draft.now c.object_settings.new.draft c.in-ObjectSettings.is c.object_settings.ensures.calls

pub returns-in-ValidationRules-clause-tells : goal.returns-in-ValidationRules-clause-tells
returns-in-ValidationRules-clause-tells g c told =
    tells_so c.args.caller.now (tables_of g.K.Keeper.state c.args.draft.now) c.args.read.now _ c.validation_rules.result c.in-ValidationRules.is
    (λ q a s asker. c.validation_rules.ensures.tells told q a.tenant s)

pub returns-in-ValidationRules-clause-calls : goal.returns-in-ValidationRules-clause-calls
returns-in-ValidationRules-clause-calls g c =
    calls_so g.K.Keeper.state c.args.read.now _ c.validation_rules.result c.args.draft.now c.validation_rules.new.draft c.in-ValidationRules.is c.validation_rules.ensures.calls

pub returns-in-Record-clause-tells : goal.returns-in-Record-clause-tells
returns-in-Record-clause-tells g c told =
    tells_so c.args.caller.now (tables_of g.K.Keeper.state c.args.draft.now) c.args.read.now _ c.record_or_description.result c.in-Record.is
    (c.record_or_description.ensures.tells told)

pub returns-in-Record-clause-calls : goal.returns-in-Record-clause-calls
returns-in-Record-clause-calls g c =
    calls_so g.K.Keeper.state c.args.read.now _ c.record_or_description.result c.args.draft.now c.record_or_description.new.draft c.in-Record.is c.record_or_description.ensures.calls

pub returns-in-RecordBy-clause-tells : goal.returns-in-RecordBy-clause-tells
returns-in-RecordBy-clause-tells g c told =
    tells_so c.args.caller.now (tables_of g.K.Keeper.state c.args.draft.now) c.args.read.now _ c.tell_caller.result c.in-RecordBy.is
    (c.tell_caller.ensures.tells told)

pub returns-in-RecordBy-clause-calls : goal.returns-in-RecordBy-clause-calls
returns-in-RecordBy-clause-calls g c =
    calls_so g.K.Keeper.state c.args.read.now _ c.tell_caller.result c.args.draft.now c.tell_caller.new.draft c.in-RecordBy.is c.tell_caller.ensures.calls

pub returns-in-Shares-clause-tells : goal.returns-in-Shares-clause-tells
returns-in-Shares-clause-tells g c told =
    tells_so c.args.caller.now (tables_of g.K.Keeper.state c.args.draft.now) c.args.read.now _ c.tell_caller-in-Shares.result c.in-Shares.is
    (c.tell_caller-in-Shares.ensures.tells told)

pub returns-in-Shares-clause-calls : goal.returns-in-Shares-clause-calls
returns-in-Shares-clause-calls g c =
    calls_so g.K.Keeper.state c.args.read.now _ c.tell_caller-in-Shares.result c.args.draft.now c.tell_caller-in-Shares.new.draft c.in-Shares.is c.tell_caller-in-Shares.ensures.calls

pub returns-in-Versions-clause-tells : goal.returns-in-Versions-clause-tells
returns-in-Versions-clause-tells g c told =
    tells_so c.args.caller.now (tables_of g.K.Keeper.state c.args.draft.now) c.args.read.now _ c.made.result c.in-Versions.is
    (λ q a s asker. c.made.ensures.tells versions_json c.versions.ensures)

pub returns-in-Versions-clause-calls : goal.returns-in-Versions-clause-calls
returns-in-Versions-clause-calls g c =
    calls_so g.K.Keeper.state c.args.read.now _ c.made.result c.args.draft.now c.args.draft.now c.in-Versions.is (calls_none g.K.Keeper.state c.call_laws.ensures.weaker c.call_laws.ensures.none c.made.result c.args.draft.now c.made.ensures.cause)

pub returns-in-Resources-clause-tells : goal.returns-in-Resources-clause-tells
returns-in-Resources-clause-tells g c told =
    tells_so c.args.caller.now (tables_of g.K.Keeper.state c.args.draft.now) c.args.read.now _ c.made-in-Resources.result c.in-Resources.is
    (λ q a s asker. c.made-in-Resources.ensures.tells resources_json c.resources.ensures)

pub returns-in-Resources-clause-calls : goal.returns-in-Resources-clause-calls
returns-in-Resources-clause-calls g c =
    calls_so g.K.Keeper.state c.args.read.now _ c.made-in-Resources.result c.args.draft.now c.args.draft.now c.in-Resources.is (calls_none g.K.Keeper.state c.call_laws.ensures.weaker c.call_laws.ensures.none c.made-in-Resources.result c.args.draft.now c.made-in-Resources.ensures.cause)
