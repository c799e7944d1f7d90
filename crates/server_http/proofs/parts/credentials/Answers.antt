use Rattle.std.proofs.Common.{◌∙◌, sym, ap, arith, Some, length, take, drop, ◌-◌}
use Rattle.std.proofs.lemmas.List.{take_rest}
use Rattle.server_http.proofs.Callers.{text_credentials, no_text_credentials}
use Rattle.server_http.proofs.parts.credentials.Goals as goal

pub returns-in_ok-from_str-in-Ok : goal.returns-in_ok-from_str-in-Ok
returns-in_ok-from_str-in-Ok c =
    let cases = c.in-Ok.ensures.cases in
    ap Some c.in_ok-from_str-in-Ok.ensures
    ∙ sym (text_credentials c.args.value.now (take (length c.args.value.now - 7) (drop 7 c.args.value.now)) c.in-Ok.text.now (omega arith) (sym c.is_same.ensures ∙ c.if-not-is_same.false) (take_rest c.args.value.now 7) cases.0 cases.1)

pub returns-in-Err : goal.returns-in-Err
returns-in-Err c = sym (no_text_credentials c.args.value.now (take (length c.args.value.now - 7) (drop 7 c.args.value.now)) (take_rest c.args.value.now 7) c.in-Err.ensures.cases.0)
