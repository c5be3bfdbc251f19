-- A session that has begun: what is said of it by its own parts, and by those that it began with.
use Rattle.std.proofs.Common.{ℕ, ◌<◌, Bool, List, length, refl, sym, ap, subst}
use Rattle.std.specs.Prelude.{◌^◌}
use Rattle.std.specs.Str.{IsUtf8}
use Rattle.js_text.specs.declared.source_type.SourceType.{SourceType}
use Rattle.js_session.specs.Session.{Begins, SessionState}

-- the session began with its own text, type of source and setting
pub begun_itself : (text : List ℕ) (t : SourceType) (collects : Bool) (s : SessionState) → Begins text t collects s
    → Begins s.text s.source_type s.collects s
begun_itself text t collects s b = rw b.after (record { row = b.row; is_row = b.is_row; after = refl })

-- what holds of these holds of those that it began with
pub of_begun : (P : List ℕ → SourceType → Bool → Type 0) (text : List ℕ) (t : SourceType) (collects : Bool)
    (s : SessionState) → Begins text t collects s → P s.text s.source_type s.collects → P text t collects
of_begun P text t collects s b is =
    subst (λ (x : SessionState). P x.text x.source_type x.collects) b.after is

pub begun_utf8 : (text : List ℕ) (t : SourceType) (collects : Bool) (s : SessionState) → Begins text t collects s
    → IsUtf8 text → IsUtf8 s.text
begun_utf8 text t collects s b = subst IsUtf8 (sym (ap (λ x. x.text) b.after))

pub begun_short : (text : List ℕ) (t : SourceType) (collects : Bool) (s : SessionState) → Begins text t collects s
    → length text < 2 ^ 32 → length s.text < 2 ^ 32
begun_short text t collects s b = subst (λ x. length x < 2 ^ 32) (sym (ap (λ x. x.text) b.after))
