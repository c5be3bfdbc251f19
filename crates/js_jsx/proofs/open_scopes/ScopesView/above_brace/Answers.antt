use Rattle.std.proofs.Common.{◌-◌, sym, ◌∙◌, ap, drop, length}
use Rattle.std.proofs.lemmas.List.{length-map}
use Rattle.js_jsx.proofs.ScopeLemmas.{above_brace}
use Rattle.js_jsx.proofs.open_scopes.ScopesView.above_brace.Goals as goal

pub returns : goal.returns
returns c =
    let scopes = c.args.self.now in
    let long = c.len.ensures ∙ sym (length-map c.self.inside.stack (λ item. item.scope)) ∙ ap length c.self.view_is in
    ap (λ n. drop n scopes)
    (c.saturating_sub.ensures ∙ ap (λ n. n - c.braced.result) long ∙ ap (λ n. length scopes - n) c.braced.ensures)
    ∙ above_brace scopes
