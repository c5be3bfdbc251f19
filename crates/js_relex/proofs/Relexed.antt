-- The rows of an edited text: those that are kept, and behind them those of a session that goes on there.
use Rattle.std.proofs.Common.{◌≡◌, ℕ, suc, ◌-◌, true, List, ◌++◌, length, take, drop, refl, sym, ◌∙◌, ap, subst}
use Rattle.std.proofs.Common.{◌+◌, arith, get_or, Option}
use Rattle.std.specs.List.{list_all}
use Rattle.std.specs.Str.{IsUtf8}
use Rattle.std.proofs.lemmas.List.{length-drop}
use Rattle.std.proofs.Math.Seq.{take-length}
use Rattle.js_text.specs.declared.source_type.SourceType.{SourceType}
use Rattle.js_kind.specs.TokenParts.{TokenParts}
use Rattle.js_session.specs.declared.command.Command.{Command}
use Rattle.js_session.specs.declared.report.Report.{Report}
use Rattle.js_session.specs.declared.row.Row.{Row}
use Rattle.js_session.specs.Effects.{is_lasting}
use Rattle.js_session.specs.Live.{state_after, state_after_first}
use Rattle.js_session.specs.Report.{AreRows, Run}
use Rattle.js_session.specs.Session.{state_behind}
use Rattle.js_session.proofs.LastingRuns.{GoesOnBehind, all_steps, behind_first, behind_rows}
use Rattle.js_session.proofs.LocalRuns.{run_of_last}
use Rattle.js_session.proofs.RunsOn.{runs_on}
use Rattle.js_relex.specs.Documents.{DocState, IsDocument, IsEdit, edited}
use Rattle.js_relex.specs.Kept.{IsKept}
use Rattle.js_relex.proofs.KeptRows.{KeptAll, drop_lasting, kept_by_edit, take_lasting}

-- A session may go on behind the kept rows.
pub goes_on : (text : List ℕ) (t : SourceType) (new : List Command) (all : List Row) (kept : ℕ) (last : TokenParts)
    → list_all is_lasting new ≡ true → (k : KeptAll text t new all kept last)
    → GoesOnBehind text (state_after (state_after_first k.first) (take kept new) (take kept k.rows)) last
goes_on text t new all kept last lasting k =
    subst (GoesOnBehind text (state_after (state_after_first k.first) (take kept new) (take kept k.rows)))
    (sym k.last_is)
    (behind_rows text t (state_after_first k.first) (take kept new) (take kept k.rows) k.first.token
    (take_lasting kept new lasting) (behind_first text t k.first k.is_first) k.run)

-- What it reads there for more commands makes them whole.
pub whole_rows : (text : List ℕ) (t : SourceType) (new more : List Command) (all behind : List Row) (kept : ℕ)
    (last : TokenParts) → list_all is_lasting new ≡ true → list_all is_lasting more ≡ true
    → KeptAll text t new all kept last → Run text t (state_behind last) more behind
    → AreRows text t (take kept new ++ more) (take (suc kept) all ++ behind)
whole_rows text t new more all behind kept last lasting lasting_more k run =
    let s = state_after (state_after_first k.first) (take kept new) (take kept k.rows) in
    let on = goes_on text t new all kept last lasting k in
    let here =
    run_of_last text t (state_behind last) s last more behind (all_steps more lasting_more) refl on.last_is run in
    let both =
    (runs_on text t (state_after_first k.first) (take kept new) more (take kept k.rows) behind k.run).run here in
    subst (λ rs. AreRows text t (take kept new ++ more) (take (suc kept) rs ++ behind)) (sym k.all_are)
    (k.is_first, both)

pub rest_of : {A : Type 0} (xs : List A) (n : ℕ) → take (length xs - n) (drop n xs) ≡ drop n xs
rest_of xs n =
    ap (λ k. take k (drop n xs)) (sym (length-drop n xs)) ∙ take-length (drop n xs)

-- the commands behind the kept ones may be given to a document
pub rest_lasts : (cs : List Command) (n : ℕ) → list_all is_lasting cs ≡ true
    → list_all is_lasting (take (length cs - n) (drop n cs)) ≡ true
rest_lasts cs n e = ap (list_all is_lasting) (rest_of cs n) ∙ drop_lasting n cs e

-- a document is one by its parts
pub document_of : (old : DocState) (text : List ℕ) (t : SourceType) (commands : List Command) (report : Report)
    (kept : ℕ) (joined : Option ℕ) → IsDocument text t commands report
    → record { text = text; source_type = t; commands = commands; report = report; kept = kept; joined = joined } ≡ old
    → IsDocument old.text old.source_type old.commands old.report
document_of old text t commands report kept joined doc is =
    subst (λ (d : DocState). IsDocument d.text d.source_type d.commands d.report) is doc

-- what an edit keeps of a document, by the document itself
pub kept_of_document : (old : DocState) (rows : List Row) (new_text ins : List ℕ) (start end : ℕ) (new : List Command)
    (last : ℕ) (d : Row) → IsDocument old.text old.source_type old.commands old.report → rows ≡ old.report.rows
    → IsEdit old.text start end → new_text ≡ edited old.text start end ins → IsUtf8 new_text
    → list_all is_lasting new ≡ true → IsKept start old.report.rows new (last + 1)
    → KeptAll new_text old.source_type new old.report.rows last (get_or rows last d).token
kept_of_document old rows new_text ins start end new last d doc same edit is u lasting stay =
    let one : last + 1 ≡ suc last = omega arith in
    subst (λ rs. KeptAll new_text old.source_type new old.report.rows last (get_or rs last d).token) (sym same)
    (subst (λ x. KeptAll x old.source_type new old.report.rows last (get_or old.report.rows last d).token) (sym is)
    (kept_by_edit old.text ins start end old.source_type old.commands new old.report.rows last d edit
    doc.report_is.utf8 (subst IsUtf8 is u) doc.lasting lasting doc.report_is.rows
    (subst (IsKept start old.report.rows new) one stay)))
