-- Lists that aren't what becomes of two posted commands.
use Rattle.std.proofs.Common.{◌≡◌, ◌⊎◌, inl, inr, ℕ, ◌<◌, List, [], ◌∷◌, ◌++◌, map, get_or, ap, sym, ◌∙◌, arith}
use Rattle.std.specs.Prelude.{Option}
use Rattle.shmem_header.specs.Spelling.{word_bytes}
use Rattle.pcc_history.specs.Channel.{Exchange}
use Rattle.pcc_journal.specs.declared.record.Pending.{Pending}
use Rattle.pcc_notify.specs.declared.notice.Notice.{Notice}
use Rattle.pcc_notify.specs.Notices.{handled_of}
use Rattle.pcc_notify.specs.Worked.{Became, first_notice, second_notice}

-- the first byte of the input at a place
abbrev byte_at : ℕ → List Notice → ℕ
byte_at place ns = get_or (map (λ (n : Notice). get_or n.input 0 0) ns) place 0

abbrev both : List Notice
both = first_notice ∷ second_notice ∷ []

pub below : (m n : ℕ) → m < n → m ≡ n → ⊥
below m n lt e = omega (arith, lt, e)

abbrev pub Handled : List Notice → Type 0
Handled hs = (both ≡ hs) ⊎ ((last : Notice) × (both ≡ hs ++ last ∷ []))

pub handled : (es rs : List Exchange) (p : Option Pending) → Became es rs p → Handled (handled_of es)
unfolding word_bytes
handled es rs p h = h.handled

-- another command at a place
pub other_at : (place m n : ℕ) (hs : List Notice) → byte_at place both ≡ m → byte_at place hs ≡ n → (m ≡ n → ⊥)
    → ((last : Notice) → byte_at place (hs ++ last ∷ []) ≡ n) → Handled hs → ⊥
other_at place m n hs a b differ more (inl e) = differ (sym a ∙ (ap (byte_at place) e ∙ b))
other_at place m n hs a b differ more (inr (last, e)) = differ (sym a ∙ (ap (byte_at place) e ∙ more last))
