-- Words of the block that are moved at once are moved by single word steps.
use Rattle.std.proofs.Common.{◌≡◌, ◌≢◌, ◌⊎◌, inl, inr, ℕ, zero, suc, ◌+◌, ◌-◌, ◌^◌, ◌<◌, ◌≤◌, Bool, true, ltb, List, length, get_or, set, refl, sym, ap, ◌∙◌, subst, arith, length-set}
use Rattle.std.specs.Prelude.{None}
use Rattle.std.proofs.lemmas.Bool.{lt-ltb, cases_lt}
use Rattle.pcc_steps.specs.declared.wiring.Wiring.{Wiring}
use Rattle.pcc_steps.specs.declared.ask.AskStage.{AskStage}
use Rattle.pcc_steps.specs.declared.ask.AskStage.TheVariants.{PostBlock, LookBlock}
use Rattle.pcc_steps.specs.declared.answer.AnswerStage.{AnswerStage}
use Rattle.pcc_steps.specs.declared.answer.AnswerStage.TheVariants.{RunDevice, TakeBlock, ReplyBlock}
use Rattle.pcc_steps.specs.Changes.{next_changed, changes_from}
use Rattle.pcc_steps.specs.Wires.{style_of, block_of}
use Rattle.pcc_steps.specs.Asking.{Ask, AskOk, IsAskRunning, has_more, rose, ask_next, ask_fed, ask_told, ask_stepped, post_on, block_stage, read_on, read_told}
use Rattle.pcc_steps.specs.Answering.{Answer, AnswerOk, IsAnswerStepping, answer_next, answer_fed, answer_told, answer_stepped, load_on, reply_on, reply_stage}
use Rattle.pcc_steps.specs.Agree.{act, found}
use Rattle.pcc_steps.specs.Moves.{AskMoves, AnswerMoves, with_loaded, risen}
use Rattle.pcc_steps.proofs.Changes.{next_same, next_other, changes_same, changes_other, changes_none}
use Rattle.pcc_steps.proofs.Ends.{count_rises}

-- ---- loops

pub loaded_more : (last j : ℕ) (ws block : List ℕ) → j < last
    → with_loaded (last - j) j ws block ≡ with_loaded (last - (j + 1)) (j + 1) ws (set block j (get_or ws (8 + j) 0))
loaded_more last j ws block h = let e : last - j ≡ suc (last - (j + 1)) = omega arith in ap (λ (n : ℕ). with_loaded n j ws block) e

pub loaded_done : (last j : ℕ) (ws block : List ℕ) → last ≤ j → with_loaded (last - j) j ws block ≡ block
loaded_done last j ws block h = let e : last - j ≡ zero = omega arith in ap (λ (n : ℕ). with_loaded n j ws block) e

pub loaded_long : (n j : ℕ) (ws block : List ℕ) → length (with_loaded n j ws block) ≡ length block
loaded_long zero j ws block = refl
loaded_long (suc n) j ws block = loaded_long n (j + 1) ws (set block j (get_or ws (8 + j) 0)) ∙ length-set block j (get_or ws (8 + j) 0)

-- ---- the count of steps

pub risen_below : (n steps : ℕ) → steps + n ≤ 2 ^ 64 - 1 → risen n steps ≡ steps + n
risen_below zero steps h = omega arith
risen_below (suc n) steps h = let e : rose steps ≡ steps + 1 = (count_rises steps).0 (omega (arith, h)) in
    let k : risen n (steps + 1) ≡ steps + 1 + n = risen_below n (steps + 1) (omega (arith, h)) in
    ap (risen n) e ∙ k ∙ (let q : steps + 1 + n ≡ steps + suc n = omega arith in q)

pub risen_full : (n steps : ℕ) → steps ≤ 2 ^ 64 - 1 → 2 ^ 64 - 1 ≤ steps + n → risen n steps ≡ 2 ^ 64 - 1
risen_full zero steps most h = omega (arith, most, h)
risen_full (suc n) steps most h = by (cases_lt steps (2 ^ 64 - 1)) (λ s le lt. risen_full n s le lt)
  where
    by : (steps < 2 ^ 64 - 1) ⊎ (2 ^ 64 - 1 ≤ steps) → ((s : ℕ) → s ≤ 2 ^ 64 - 1 → 2 ^ 64 - 1 ≤ s + n → risen n s ≡ 2 ^ 64 - 1)
        → risen n (rose steps) ≡ 2 ^ 64 - 1
    by (inl below) on = ap (risen n) ((count_rises steps).0 below) ∙ on (steps + 1) (omega (arith, below)) (omega (arith, h))
    by (inr above) on = ap (risen n) ((count_rises steps).1 above) ∙ on steps most (omega (arith, above))

-- ---- the asking end

more_is : (j n : ℕ) (w : Wiring) → j + suc n < block_of w → has_more j w ≡ true
more_is j n w h = lt-ltb (j + 1) (block_of w) (omega (arith, h))

-- one step more
asks_more : (n : ℕ) (ws ws1 : List ℕ) (a b : Ask) → AskMoves n ws a ws1 b → let v : ℕ = found (ask_next b) ws1 in AskOk b → IsAskRunning b → v < 2 ^ 64
    → ask_told b v ≡ None → AskMoves (suc n) ws a (act (ask_next b) ws1) (ask_fed b v)
asks_more zero ws ws1 a b h ok runs small told = subst (λ (z : List ℕ × Ask). AskMoves 1 z.0 z.1 (act (ask_next b) ws1) (ask_fed b (found (ask_next b) ws1))) (λ i. (h.0 i, h.1 i)) (ok, runs, small, told, (refl, refl))
asks_more (suc n) ws ws1 a b h ok runs small told = let v : ℕ = found (ask_next a) ws in (h.0, h.1, h.2, h.3, asks_more n (act (ask_next a) ws) ws1 (ask_fed a v) b h.4 ok runs small told)

-- the words that changed before the place `next` are stored, but for the last of them
pub record Posts (from : ℕ) (ws0 : List ℕ) (a : Ask) (ws : List ℕ) (at steps next : ℕ) : Type 0 where
  pub count : ℕ
  pub moves : AskMoves count ws0 a ws (record a { stage = PostBlock at; steps = steps })
  -- with those that are left
  pub all : count + changes_from next a.sent a.shown ≡ changes_from (from + 1) a.sent a.shown
  pub right : AskOk (record a { stage = PostBlock at; steps = steps })
  pub past : at < next
  pub same : next_changed next a.sent a.shown ≡ next_changed (at + 1) a.sent a.shown
  pub long : length ws ≡ length ws0

pub posts_start : (ws : List ℕ) (a : Ask) (from : ℕ) → AskOk a → a.stage ≡ PostBlock from → Posts from ws a ws from a.steps (from + 1)
posts_start ws a from ok e = record {
  count = 0;
  moves = (refl, ap (λ (st : AskStage). record a { stage = st }) (sym e));
  all = omega arith;
  right = subst (λ (st : AskStage). AskOk (record a { stage = st })) e ok;
  past = omega arith;
  same = refl;
  long = refl;
}

-- a word that did not change is passed over
pub posts_over : (from : ℕ) (ws0 ws : List ℕ) (a : Ask) (at steps next : ℕ) → AskOk a → Posts from ws0 a ws at steps next → next < length a.sent
    → get_or a.sent next 0 ≡ get_or a.shown next 0 → Posts from ws0 a ws at steps (next + 1)
posts_over from ws0 ws a at steps next ok h here e = record {
  count = h.count;
  moves = h.moves;
  all = ap (λ (n : ℕ). h.count + n) (sym (changes_same next a.sent a.shown here (ok.sized.sent ∙ sym ok.sized.shown) e)) ∙ h.all;
  right = h.right;
  past = let p = h.past in omega (arith, p);
  same = sym (next_same next a.sent a.shown here (ok.sized.sent ∙ sym ok.sized.shown) e) ∙ h.same;
  long = h.long;
}

-- at another word that changed, the one before is stored
pub posts_on : (from : ℕ) (ws0 ws : List ℕ) (a : Ask) (at steps next : ℕ) → AskOk a → Posts from ws0 a ws at steps next → next < length a.sent
    → get_or a.sent next 0 ≢ get_or a.shown next 0 → Posts from ws0 a (set ws (8 + at) (get_or a.sent at 0)) next (rose steps) (next + 1)
posts_on from ws0 ws a at steps next ok h here e = let b : Ask = record a { stage = PostBlock at; steps = steps } in let long : length a.sent ≡ length a.shown = ok.sized.sent ∙ sym ok.sized.shown in
    let is : next_changed (at + 1) a.sent a.shown ≡ next = sym h.same ∙ next_other next a.sent a.shown here long e in
    let fed : block_stage (at + 1) a.wiring a.sent a.shown ≡ PostBlock next = ap (λ (n : ℕ). post_on (ltb n (length a.sent)) n (style_of a.wiring)) is ∙ ap (λ (m : Bool). post_on m next (style_of a.wiring)) (lt-ltb next (length a.sent) here) in record {
      count = suc h.count;
      moves = subst (λ (st : AskStage). AskMoves (suc h.count) ws0 a (set ws (8 + at) (get_or a.sent at 0)) (record a { stage = st; steps = rose steps })) fed
          (asks_more h.count ws0 ws a b h.moves h.right (λ q. cc) (omega arith) refl);
      all = let m = changes_other next a.sent a.shown here long e in let l = h.all in omega (arith, m, l);
      right = let r = h.right in record { wired = r.wired; sized = r.sized; place = (let s = ok.sized.sent in omega (arith, here, s)); flies = r.flies; looks = r.looks; posts = r.posts; kept = r.kept; mask = r.mask; id = r.id; code = r.code };
      past = omega arith;
      same = refl;
      long = length-set ws (8 + at) (get_or a.sent at 0) ∙ h.long;
    }

look_ok : (j k steps : ℕ) (block : List ℕ) (a : Ask) → AskOk (record a { stage = LookBlock j }) → k < block_of a.wiring → length block ≡ block_of a.wiring
    → AskOk (record a { stage = LookBlock k; loaded = block; steps = steps })
look_ok j k steps block a ok h long = record {
  wired = ok.wired;
  sized = record { sent = ok.sized.sent; shown = ok.sized.shown; loaded = long; input = ok.sized.input; space = ok.sized.space };
  place = h;
  flies = ok.flies;
  looks = ok.looks;
  posts = ok.posts;
  kept = ok.kept;
  mask = ok.mask;
  id = ok.id;
  code = ok.code;
}

loads : (n j steps : ℕ) (ws block : List ℕ) (a : Ask) → ((p : ℕ) → get_or ws p 0 < 2 ^ 64) → AskOk (record a { stage = LookBlock j })
    → length block ≡ block_of a.wiring → j + n < block_of a.wiring
    → AskMoves n ws (record a { stage = LookBlock j; loaded = block; steps = steps }) ws (record a { stage = LookBlock (j + n); loaded = with_loaded n j ws block; steps = risen n steps })
loads zero j steps ws block a small ok long h = (refl, let e : j + zero ≡ j = omega arith in ap (λ (k : ℕ). record a { stage = LookBlock k; loaded = block; steps = steps }) e)
loads (suc n) j steps ws block a small ok long h = let b : Ask = record a { stage = LookBlock j; loaded = block; steps = steps } in let v : ℕ = get_or ws (8 + j) 0 in let on : List ℕ = set block j v in
    let more : has_more j a.wiring ≡ true = more_is j n a.wiring h in
    let fed : record a { stage = LookBlock (j + 1); loaded = on; steps = rose steps } ≡ ask_stepped (read_on (has_more j a.wiring) j v b) = sym (ap (λ (m : Bool). ask_stepped (read_on m j v b)) more) in
    let at : j + 1 + n ≡ j + suc n = omega arith in
    let rest = loads n (j + 1) (rose steps) ws on a small (look_ok j (j + 1) a.steps a.loaded a ok (omega (arith, h)) ok.sized.loaded) (length-set block j v ∙ long) (omega (arith, h)) in (
      look_ok j j steps block a ok (omega (arith, h)) long,
      λ q. cc,
      small (8 + j),
      ap (λ (m : Bool). read_told m a.wiring.notify a.error) more,
      subst (λ (z : Ask × ℕ). AskMoves n ws z.0 ws (record a { stage = LookBlock z.1; loaded = with_loaded n (j + 1) ws on; steps = risen n (rose steps) })) (λ i. (fed i, at i)) rest,
    )

-- the words of the block from this one on, without the last one
abbrev pub before_last : ℕ → Wiring → ℕ
before_last j w = block_of w - 1 - j

last_at : (j : ℕ) (w : Wiring) → j < block_of w → j + before_last j w ≡ block_of w - 1
last_at j w h = omega (arith, h)

pub looks_move : (j : ℕ) (ws : List ℕ) (a : Ask) → ((p : ℕ) → get_or ws p 0 < 2 ^ 64) → AskOk a → a.stage ≡ LookBlock j
    → AskMoves (before_last j a.wiring) ws a ws (record a { stage = LookBlock (block_of a.wiring - 1); loaded = with_loaded (before_last j a.wiring) j ws a.loaded; steps = risen (before_last j a.wiring) a.steps })
looks_move j ws a small ok e = let n : ℕ = before_last j a.wiring in
    let ok' : AskOk (record a { stage = LookBlock j }) = subst (λ (s : AskStage). AskOk (record a { stage = s })) e ok in
    let h : j < block_of a.wiring = ok'.place in
    subst (λ (z : AskStage × ℕ). AskMoves n ws (record a { stage = z.0 }) ws (record a { stage = LookBlock z.1; loaded = with_loaded n j ws a.loaded; steps = risen n a.steps })) (λ i. (sym e i, last_at j a.wiring h i))
    (loads n j a.steps ws a.loaded a small ok' ok.sized.loaded (omega (arith, h)))

-- a turn of the loop
pub posts_same : (from : ℕ) (ws0 ws ws' : List ℕ) (a : Ask) (at at' steps steps' next : ℕ) → AskOk a → Posts from ws0 a ws at steps next → next < length a.sent
    → get_or a.sent next 0 ≡ get_or a.shown next 0 → ws' ≡ ws → at' ≡ at → steps' ≡ steps → Posts from ws0 a ws' at' steps' (next + 1)
posts_same from ws0 ws ws' a at at' steps steps' next ok h here e w p n = subst (λ (z : List ℕ × ℕ × ℕ). Posts from ws0 a z.0 z.1 z.2 (next + 1)) (λ i. (sym w i, sym p i, sym n i)) (posts_over from ws0 ws a at steps next ok h here e)

pub posts_other : (from : ℕ) (ws0 ws ws' : List ℕ) (a : Ask) (at at' steps steps' next : ℕ) → AskOk a → Posts from ws0 a ws at steps next → next < length a.sent
    → get_or a.sent next 0 ≢ get_or a.shown next 0 → ws' ≡ set ws (8 + at) (get_or a.sent at 0) → at' ≡ next → steps' ≡ rose steps → Posts from ws0 a ws' at' steps' (next + 1)
posts_other from ws0 ws ws' a at at' steps steps' next ok h here e w p n = subst (λ (z : List ℕ × ℕ × ℕ). Posts from ws0 a z.0 z.1 z.2 (next + 1)) (λ i. (sym w i, sym p i, sym n i)) (posts_on from ws0 ws a at steps next ok h here e)

-- at the end of the loop
pub posts_done : (from : ℕ) (ws0 ws : List ℕ) (a b : Ask) (at steps next : ℕ) → Posts from ws0 a ws at steps next → length a.sent ≤ next
    → b ≡ record a { stage = PostBlock at; steps = steps } → AskMoves (changes_from (from + 1) a.sent a.shown) ws0 a ws b
posts_done from ws0 ws a b at steps next h end e = let none = changes_none next a.sent a.shown end in let l = h.all in let n : h.count ≡ changes_from (from + 1) a.sent a.shown = omega (arith, none, l) in
    subst (λ (z : ℕ × Ask). AskMoves z.0 ws0 a ws z.1) (λ i. (n i, sym e i)) h.moves

-- ---- the answering end

take_ok : (j k steps : ℕ) (block : List ℕ) (b : Answer) → AnswerOk (record b { stage = TakeBlock j }) → k < block_of b.wiring → length block ≡ block_of b.wiring
    → AnswerOk (record b { stage = TakeBlock k; loaded = block; steps = steps })
take_ok j k steps block b ok h long = record { wired = ok.wired; sized = record { loaded = long; out = ok.sized.out; space = ok.sized.space }; place = h; kept = ok.kept; header = ok.header }

takes : (n j steps : ℕ) (ws block : List ℕ) (b : Answer) → ((p : ℕ) → get_or ws p 0 < 2 ^ 64) → AnswerOk (record b { stage = TakeBlock j })
    → length block ≡ block_of b.wiring → j + n < block_of b.wiring
    → AnswerMoves n ws (record b { stage = TakeBlock j; loaded = block; steps = steps }) ws (record b { stage = TakeBlock (j + n); loaded = with_loaded n j ws block; steps = risen n steps })
takes zero j steps ws block b small ok long h = (refl, let e : j + zero ≡ j = omega arith in ap (λ (k : ℕ). record b { stage = TakeBlock k; loaded = block; steps = steps }) e)
takes (suc n) j steps ws block b small ok long h = let c : Answer = record b { stage = TakeBlock j; loaded = block; steps = steps } in let v : ℕ = get_or ws (8 + j) 0 in let on : List ℕ = set block j v in
    let d : Answer = record b { stage = TakeBlock (j + 1); loaded = on; steps = rose steps } in
    let fed : d ≡ answer_stepped (load_on (has_more j b.wiring) j v c) = sym (ap (λ (m : Bool). answer_stepped (load_on m j v c)) (more_is j n b.wiring h)) in
    let at : j + 1 + n ≡ j + suc n = omega arith in let same : length on ≡ block_of b.wiring = length-set block j v ∙ long in
    let rest = takes n (j + 1) (rose steps) ws on b small (take_ok j (j + 1) b.steps b.loaded b ok (omega (arith, h)) ok.sized.loaded) same (omega (arith, h)) in (
      take_ok j j steps block b ok (omega (arith, h)) long,
      (λ q. cc, λ q. cc),
      small (8 + j),
      refl,
      subst AnswerOk fed (take_ok j (j + 1) (rose steps) on b ok (omega (arith, h)) same),
      subst (λ (z : Answer). z.stage ≢ RunDevice) fed (λ q. cc),
      subst (λ (z : Answer × ℕ). AnswerMoves n ws z.0 ws (record b { stage = TakeBlock z.1; loaded = with_loaded n (j + 1) ws on; steps = risen n (rose steps) })) (λ i. (fed i, at i)) rest,
    )

-- one step more
answers_more : (n : ℕ) (ws ws1 : List ℕ) (a b : Answer) → AnswerMoves n ws a ws1 b → let v : ℕ = found (answer_next b) ws1 in AnswerOk b → IsAnswerStepping b → v < 2 ^ 64
    → answer_told b v ≡ None → AnswerOk (answer_fed b v) → (answer_fed b v).stage ≢ RunDevice → AnswerMoves (suc n) ws a (act (answer_next b) ws1) (answer_fed b v)
answers_more zero ws ws1 a b h ok steps small told right goes = subst (λ (z : List ℕ × Answer). AnswerMoves 1 z.0 z.1 (act (answer_next b) ws1) (answer_fed b (found (answer_next b) ws1))) (λ i. (h.0 i, h.1 i)) (ok, steps, small, told, right, goes, (refl, refl))
answers_more (suc n) ws ws1 a b h ok steps small told right goes = let v : ℕ = found (answer_next a) ws in
    (h.0, h.1, h.2, h.3, h.4, h.5, answers_more n (act (answer_next a) ws) ws1 (answer_fed a v) b h.6 ok steps small told right goes)

-- the words that changed before the place `next` are stored, but for the last of them
pub record Replies (from : ℕ) (ws0 : List ℕ) (a : Answer) (ws : List ℕ) (at steps next : ℕ) : Type 0 where
  pub count : ℕ
  pub moves : AnswerMoves count ws0 a ws (record a { stage = ReplyBlock at; steps = steps })
  -- with those that are left
  pub all : count + changes_from next a.out a.loaded ≡ changes_from (from + 1) a.out a.loaded
  pub right : AnswerOk (record a { stage = ReplyBlock at; steps = steps })
  pub past : at < next
  pub same : next_changed next a.out a.loaded ≡ next_changed (at + 1) a.out a.loaded
  pub long : length ws ≡ length ws0

pub replies_start : (ws : List ℕ) (a : Answer) (from : ℕ) → AnswerOk a → a.stage ≡ ReplyBlock from → Replies from ws a ws from a.steps (from + 1)
replies_start ws a from ok e = record {
  count = 0;
  moves = (refl, ap (λ (st : AnswerStage). record a { stage = st }) (sym e));
  all = omega arith;
  right = subst (λ (st : AnswerStage). AnswerOk (record a { stage = st })) e ok;
  past = omega arith;
  same = refl;
  long = refl;
}

-- a word that did not change is passed over
pub replies_over : (from : ℕ) (ws0 ws : List ℕ) (a : Answer) (at steps next : ℕ) → AnswerOk a → Replies from ws0 a ws at steps next → next < length a.out
    → get_or a.out next 0 ≡ get_or a.loaded next 0 → Replies from ws0 a ws at steps (next + 1)
replies_over from ws0 ws a at steps next ok h here e = record {
  count = h.count;
  moves = h.moves;
  all = ap (λ (n : ℕ). h.count + n) (sym (changes_same next a.out a.loaded here (ok.sized.out ∙ sym ok.sized.loaded) e)) ∙ h.all;
  right = h.right;
  past = let p = h.past in omega (arith, p);
  same = sym (next_same next a.out a.loaded here (ok.sized.out ∙ sym ok.sized.loaded) e) ∙ h.same;
  long = h.long;
}

-- at another word that changed, the one before is stored
pub replies_on : (from : ℕ) (ws0 ws : List ℕ) (a : Answer) (at steps next : ℕ) → AnswerOk a → Replies from ws0 a ws at steps next → next < length a.out
    → get_or a.out next 0 ≢ get_or a.loaded next 0 → Replies from ws0 a (set ws (8 + at) (get_or a.out at 0)) next (rose steps) (next + 1)
replies_on from ws0 ws a at steps next ok h here e = let b : Answer = record a { stage = ReplyBlock at; steps = steps } in let long : length a.out ≡ length a.loaded = ok.sized.out ∙ sym ok.sized.loaded in
    let is : next_changed (at + 1) a.out a.loaded ≡ next = sym h.same ∙ next_other next a.out a.loaded here long e in
    let fed : reply_stage (at + 1) a.wiring a.out a.loaded ≡ ReplyBlock next = ap (λ (n : ℕ). reply_on (ltb n (length a.out)) n a.wiring) is ∙ ap (λ (m : Bool). reply_on m next a.wiring) (lt-ltb next (length a.out) here) in
    let r = h.right in let right : AnswerOk (record a { stage = ReplyBlock next; steps = rose steps }) = record { wired = r.wired; sized = r.sized; place = (let p = r.place.0 in let q = h.past in omega (arith, p, q), let s = ok.sized.out in omega (arith, here, s)); kept = r.kept; header = r.header } in record {
      count = suc h.count;
      moves = subst (λ (st : AnswerStage). AnswerMoves (suc h.count) ws0 a (set ws (8 + at) (get_or a.out at 0)) (record a { stage = st; steps = rose steps })) fed
          (answers_more h.count ws0 ws a b h.moves h.right (λ q. cc, λ q. cc) (omega arith) refl
          (subst (λ (st : AnswerStage). AnswerOk (record a { stage = st; steps = rose steps })) (sym fed) right) (subst (λ (st : AnswerStage). st ≢ RunDevice) (sym fed) (λ q. cc)));
      all = let m = changes_other next a.out a.loaded here long e in let l = h.all in omega (arith, m, l);
      right = right;
      past = omega arith;
      same = refl;
      long = length-set ws (8 + at) (get_or a.out at 0) ∙ h.long;
    }

-- a turn of the loop
pub replies_same : (from : ℕ) (ws0 ws ws' : List ℕ) (a : Answer) (at at' steps steps' next : ℕ) → AnswerOk a → Replies from ws0 a ws at steps next → next < length a.out
    → get_or a.out next 0 ≡ get_or a.loaded next 0 → ws' ≡ ws → at' ≡ at → steps' ≡ steps → Replies from ws0 a ws' at' steps' (next + 1)
replies_same from ws0 ws ws' a at at' steps steps' next ok h here e w p n = subst (λ (z : List ℕ × ℕ × ℕ). Replies from ws0 a z.0 z.1 z.2 (next + 1)) (λ i. (sym w i, sym p i, sym n i)) (replies_over from ws0 ws a at steps next ok h here e)

pub replies_other : (from : ℕ) (ws0 ws ws' : List ℕ) (a : Answer) (at at' steps steps' next : ℕ) → AnswerOk a → Replies from ws0 a ws at steps next → next < length a.out
    → get_or a.out next 0 ≢ get_or a.loaded next 0 → ws' ≡ set ws (8 + at) (get_or a.out at 0) → at' ≡ next → steps' ≡ rose steps → Replies from ws0 a ws' at' steps' (next + 1)
replies_other from ws0 ws ws' a at at' steps steps' next ok h here e w p n = subst (λ (z : List ℕ × ℕ × ℕ). Replies from ws0 a z.0 z.1 z.2 (next + 1)) (λ i. (sym w i, sym p i, sym n i)) (replies_on from ws0 ws a at steps next ok h here e)

-- at the end of the loop
pub replies_done : (from : ℕ) (ws0 ws : List ℕ) (a b : Answer) (at steps next : ℕ) → Replies from ws0 a ws at steps next → length a.out ≤ next
    → b ≡ record a { stage = ReplyBlock at; steps = steps } → AnswerMoves (changes_from (from + 1) a.out a.loaded) ws0 a ws b
replies_done from ws0 ws a b at steps next h end e = let none = changes_none next a.out a.loaded end in let l = h.all in let n : h.count ≡ changes_from (from + 1) a.out a.loaded = omega (arith, none, l) in
    subst (λ (z : ℕ × Answer). AnswerMoves z.0 ws0 a ws z.1) (λ i. (n i, sym e i)) h.moves

pub takes_move : (j : ℕ) (ws : List ℕ) (b : Answer) → ((p : ℕ) → get_or ws p 0 < 2 ^ 64) → AnswerOk b → b.stage ≡ TakeBlock j
    → AnswerMoves (before_last j b.wiring) ws b ws (record b { stage = TakeBlock (block_of b.wiring - 1); loaded = with_loaded (before_last j b.wiring) j ws b.loaded; steps = risen (before_last j b.wiring) b.steps })
takes_move j ws b small ok e = let n : ℕ = before_last j b.wiring in
    let ok' : AnswerOk (record b { stage = TakeBlock j }) = subst (λ (s : AnswerStage). AnswerOk (record b { stage = s })) e ok in
    let h : j < block_of b.wiring = ok'.place in
    subst (λ (z : AnswerStage × ℕ). AnswerMoves n ws (record b { stage = z.0 }) ws (record b { stage = TakeBlock z.1; loaded = with_loaded n j ws b.loaded; steps = risen n b.steps })) (λ i. (sym e i, last_at j b.wiring h i))
    (takes n j b.steps ws b.loaded b small ok' ok.sized.loaded (omega (arith, h)))

-- ---- what the functions leave

last_less : (j last : ℕ) (w : Wiring) → last ≡ block_of w - 1 → last - j ≡ before_last j w
last_less j last w e = ap (λ (n : ℕ). n - j) e

pub look_moved : (j last steps : ℕ) (ws block : List ℕ) (a b : Ask) → ((p : ℕ) → get_or ws p 0 < 2 ^ 64) → AskOk a → a.stage ≡ LookBlock j
    → last ≡ block_of a.wiring - 1 → block ≡ with_loaded (last - j) j ws a.loaded → steps ≡ risen (last - j) a.steps
    → b ≡ record a { stage = LookBlock last; loaded = block; steps = steps } → AskMoves (before_last j a.wiring) ws a ws b
look_moved j last steps ws block a b small ok st e el es eb = let n : ℕ = before_last j a.wiring in let k : last - j ≡ n = last_less j last a.wiring e in
    let l : block ≡ with_loaded n j ws a.loaded = el ∙ ap (λ (m : ℕ). with_loaded m j ws a.loaded) k in
    let s : steps ≡ risen n a.steps = es ∙ ap (λ (m : ℕ). risen m a.steps) k in
    let x : b ≡ record a { stage = LookBlock (block_of a.wiring - 1); loaded = with_loaded n j ws a.loaded; steps = risen n a.steps } = eb ∙ (λ i. record a { stage = LookBlock (e i); loaded = l i; steps = s i }) in
    subst (λ (z : Ask). AskMoves n ws a ws z) (sym x) (looks_move j ws a small ok st)

pub take_moved : (j last steps : ℕ) (ws block : List ℕ) (a b : Answer) → ((p : ℕ) → get_or ws p 0 < 2 ^ 64) → AnswerOk a → a.stage ≡ TakeBlock j
    → last ≡ block_of a.wiring - 1 → block ≡ with_loaded (last - j) j ws a.loaded → steps ≡ risen (last - j) a.steps
    → b ≡ record a { stage = TakeBlock last; loaded = block; steps = steps } → AnswerMoves (before_last j a.wiring) ws a ws b
take_moved j last steps ws block a b small ok st e el es eb = let n : ℕ = before_last j a.wiring in let k : last - j ≡ n = last_less j last a.wiring e in
    let l : block ≡ with_loaded n j ws a.loaded = el ∙ ap (λ (m : ℕ). with_loaded m j ws a.loaded) k in
    let s : steps ≡ risen n a.steps = es ∙ ap (λ (m : ℕ). risen m a.steps) k in
    let x : b ≡ record a { stage = TakeBlock (block_of a.wiring - 1); loaded = with_loaded n j ws a.loaded; steps = risen n a.steps } = eb ∙ (λ i. record a { stage = TakeBlock (e i); loaded = l i; steps = s i }) in
    subst (λ (z : Answer). AnswerMoves n ws a ws z) (sym x) (takes_move j ws a small ok st)
