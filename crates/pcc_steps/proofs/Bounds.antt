-- How many word steps a run takes.
use Rattle.std.proofs.Common.{◌≡◌, ℕ, zero, suc, ◌+◌, ◌-◌, ◌*◌, ◌<◌, ◌≤◌, ◌==◌, Bool, true, false, if◌then◌else◌, List, [], ◌∷◌, ◌++◌, length, drop, ◌∙◌, subst, arith, length-drop}
use Rattle.std.proofs.lemmas.List.{length-append}
use Rattle.shmem_header.specs.Spelling.{words_of, bytes_of}
use Rattle.shmem_header.proofs.Places.{length-words_of, length-bytes_of}
use Rattle.pcc_steps.specs.declared.wiring.Wiring.{Wiring}
use Rattle.pcc_steps.specs.declared.wiring.Style.{Style}
use Rattle.pcc_steps.specs.declared.wiring.Style.TheVariants.{Headed, Joined3, Separate3, Joined4, Separate4, Reduced5}
use Rattle.pcc_steps.specs.Wires.{style_of, heads_of, block_of, meets, header_error, sees_done, tells_error, acknowledges, four_by, asks_by}
use Rattle.pcc_steps.specs.Runs.{Run, ends, loads, stores, swaps, executes, Within, store_changed, load_words, only, post_steps, posting, post_run, looks_at_error, looks_at_block, lowers_interrupt, looking, Seen, acknowledges_bell, executes_command, replies_space, taking_steps, completing_steps, answering, Got}
use Rattle.pcc_steps.specs.Laws.{PostsWithin, LooksWithin, AnswersWithin}
use Rattle.pcc_steps.proofs.AnswerWalks.{closing, replied}

-- a greater number serves too
more : {E : Type 0} (m n : ℕ) (r : Run E) → m ≤ n → Within m r → Within n r
more m n (ends e) h w = tt
more m n (loads p f) h w = let a : 0 < m = w.0 in (omega arith, λ v. more (m - 1) (n - 1) (f v) (omega arith) (w.1 v))
more m n (stores p u r) h w = let a : 0 < m = w.0 in (omega arith, more (m - 1) (n - 1) r (omega arith) w.1)
more m n (swaps p u f) h w = let a : 0 < m = w.0 in (omega arith, λ v. more (m - 1) (n - 1) (f v) (omega arith) (w.1 v))
more m n (executes code s f) h w = λ bad reply e. more m n (f bad reply) h (w bad reply e)

choice : {E : Type 0} (b : Bool) (n : ℕ) (r t : Run E) → Within n r → Within n t → Within n (if b then r else t)
choice true n r t h k = h
choice false n r t h k = k

stored : {E : Type 0} (p : ℕ) (ws os : List ℕ) (k : Run E) (m : ℕ) → Within m k → Within (length ws + m) (store_changed p ws os k)
stored p [] os k m h = more m (0 + m) k (omega arith) h
stored p (w ∷ ws) [] k m h = (omega arith, more (length ws + m) (length (w ∷ ws) + m - 1) (store_changed (p + 1) ws [] k) (omega arith) (stored (p + 1) ws [] k m h))
stored p (w ∷ ws) (o ∷ os) k m h = let r = store_changed (p + 1) ws os k in let l = stored (p + 1) ws os k m h in
    choice (w == o) (length (w ∷ ws) + m) r (stores p w r) (more (length ws + m) (length (w ∷ ws) + m) r (omega arith) l) (omega arith, more (length ws + m) (length (w ∷ ws) + m - 1) r (omega arith) l)

loaded : {E : Type 0} (p n : ℕ) (found : List ℕ) (k : List ℕ → Run E) (m : ℕ) → ((b : List ℕ) → length b ≡ length found + n → Within m (k b))
    → Within (n + m) (load_words p n found k)
loaded p zero found k m h = more m (0 + m) (k found) (omega arith) (h found (omega arith))
loaded p (suc n) found k m h = (omega arith, λ v. more (n + m) (suc n + m - 1) (load_words (p + 1) n (found ++ v ∷ []) k) (omega arith) (loaded (p + 1) n (found ++ v ∷ []) k m (λ b e. h b (let l = length-append found (v ∷ []) in omega (arith, l, e)))))

-- ---- posting

posted : (s : Style) (w : Wiring) (code : ℕ) (block old : List ℕ) → Within (length block + 7) (posting (post_steps s) w code block old)
posted Headed w code block old = stored 8 block old _ 7 (omega arith, (omega arith, λ v. (omega arith, (omega arith, tt))))
posted Joined3 w code block old = stored 8 block old _ 7 (omega arith, λ v. (omega arith, (omega arith, λ v. (omega arith, (omega arith, tt)))))
posted Separate3 w code block old = stored 8 block old _ 7 (omega arith, λ v. (omega arith, (omega arith, λ v. (omega arith, (omega arith, λ v. (omega arith, (omega arith, tt)))))))
posted Joined4 w code block old = stored 8 block old _ 7 (omega arith, λ v. (omega arith, (omega arith, tt)))
posted Separate4 w code block old = stored 8 block old _ 7 (omega arith, λ v. (omega arith, (omega arith, tt)))
posted Reduced5 w code block old = stored 8 block old _ 7 (omega arith, λ v. (omega arith, (omega arith, λ v. (omega arith, (omega arith, tt)))))

pub posts_within : PostsWithin
posts_within w code block old e = subst (λ (n : ℕ). Within (n + 7) (post_run w code block old)) e (posted (style_of w) w code block old)

-- ---- looking

lowered : (n : Bool) (w : Wiring) (s : Seen) → Within 4 (looking (only n lowers_interrupt []) w s)
lowered true w s = (omega arith, λ v. choice (v == 0) 3 _ _ tt (omega arith, choice (acknowledges w) 2 _ _ (omega arith, λ v. (omega arith, tt)) tt))
lowered false w s = tt

read : (n : Bool) (w : Wiring) (s : Seen) → Within (block_of w + 4) (looking (looks_at_block ∷ only n lowers_interrupt []) w s)
read n w s = loaded 8 (block_of w) [] (λ b. looking (only n lowers_interrupt []) w (record s { block = b })) 4 (λ b e. lowered n w (record s { block = b }))

told : (t n : Bool) (w : Wiring) (s : Seen) → Within (block_of w + 5) (looking (only t looks_at_error (looks_at_block ∷ only n lowers_interrupt [])) w s)
told true n w s = (omega arith, λ v. more (block_of w + 4) (block_of w + 5 - 1) _ (omega arith) (read n w (record s { error = meets v w.error_mask })))
told false n w s = more (block_of w + 4) (block_of w + 5) _ (omega arith) (read n w s)

pub looks_within : LooksWithin
looks_within w = (omega arith, λ v. choice (sees_done w v) (block_of w + 6 - 1) _ _ (more (block_of w + 5) (block_of w + 6 - 1) _ (omega arith) (told (tells_error w) w.notify w (record { error = header_error (style_of w) v; block = [] }))) tt)

-- ---- answering

closed : (rings : Bool) (w : Wiring) (g : Got) → Within 3 (answering (closing rings) w g)
closed true w g = (omega arith, λ v. (omega arith, choice (asks_by (style_of w) g.header g.block) 1 _ _ (omega arith, tt) tt))
closed false w g = choice (asks_by (style_of w) g.header g.block) 3 _ _ (omega arith, tt) tt

-- completion takes one step more where there is no header
completed : (s : Style) (rings : Bool) (w : Wiring) (g : Got) → Within 7 (answering (completing_steps s (closing rings)) w g)
completed Headed rings w g = (omega arith, more 3 6 _ (omega arith) (closed rings w g))
completed Joined4 rings w g = (omega arith, λ v. (omega arith, more 3 5 _ (omega arith) (closed rings w g)))
completed Separate4 rings w g = (omega arith, λ v. (omega arith, (omega arith, λ v. (omega arith, closed rings w g))))
completed _ rings w g = (omega arith, λ v. (omega arith, more 3 5 _ (omega arith) (closed rings w g)))

completed_headed : (rings : Bool) (w : Wiring) (g : Got) → Within 4 (answering (completing_steps Headed (closing rings)) w g)
completed_headed rings w g = (omega arith, closed rings w g)

errors : (s : Style) (m : ℕ) (tells rings : Bool) (w : Wiring) (g : Got) → Within m (answering (completing_steps s (closing rings)) w g)
    → Within (m + 1) (answering (replied s tells rings) w g)
errors s m true rings w g h = (omega arith, more m (m + 1 - 1) _ (omega arith) h)
errors s m false rings w g h = more m (m + 1) _ (omega arith) h

-- the device leaves as many words as it found
executed : (s : Style) (m : ℕ) (tells rings : Bool) (w : Wiring) (g : Got) → length g.block ≡ block_of w
    → ((g : Got) → Within m (answering (replied s tells rings) w g))
    → Within (block_of w + m) (answering (executes_command ∷ replies_space ∷ replied s tells rings) w g)
executed s m tells rings w g long h = λ bad reply e. let k : ℕ = heads_of (style_of w) in let a = length-bytes_of (drop k g.block) in let d = length-drop k g.block in let q = length-words_of reply in let f : length reply ≡ length (bytes_of (drop k g.block)) = e in
    let small : length (words_of reply) ≤ block_of w = omega (arith, a, d, q, f) in
    more (length (words_of reply) + m) (block_of w + m) _ (omega arith) (stored (8 + k) (words_of reply) (drop k g.block) (answering (replied s tells rings) w (record g { bad = bad; reply = reply })) m (h (record g { bad = bad; reply = reply })))

took_block : (s : Style) (m : ℕ) (tells rings : Bool) (w : Wiring) (g : Got) → ((g : Got) → Within m (answering (replied s tells rings) w g))
    → Within (block_of w + (block_of w + m)) (load_words 8 (block_of w) [] (λ b. answering (executes_command ∷ replies_space ∷ replied s tells rings) w (record g { block = b })))
took_block s m tells rings w g h = loaded 8 (block_of w) [] (λ b. answering (executes_command ∷ replies_space ∷ replied s tells rings) w (record g { block = b })) (block_of w + m) (λ b e. executed s m tells rings w (record g { block = b }) (e ∙ (let z : 0 + block_of w ≡ block_of w = omega arith in z)) h)

taken : (s : Style) (tells rings : Bool) (w : Wiring) (g : Got)
    → Within (2 * block_of w + 8) (answering (taking_steps s (executes_command ∷ replies_space ∷ replied s tells rings)) w g)
taken Headed tells rings w g = let n : ℕ = block_of w in (omega arith, λ v. more (n + (n + 5)) (2 * n + 8 - 1) _ (omega arith) (took_block Headed 5 tells rings w (record g { header = v }) (λ g. errors Headed 4 tells rings w g (completed_headed rings w g))))
taken s tells rings w g = let n : ℕ = block_of w in more (n + (n + 8)) (2 * n + 8) _ (omega arith) (took_block s 8 tells rings w g (λ g. errors s 7 tells rings w g (completed s rings w g)))

acked : (ack : Bool) (s : Style) (tells rings : Bool) (w : Wiring) (g : Got)
    → Within (2 * block_of w + 10) (answering (only ack acknowledges_bell (taking_steps s (executes_command ∷ replies_space ∷ replied s tells rings))) w g)
acked true s tells rings w g = let n : ℕ = block_of w in (omega arith, λ v. (omega arith, more (2 * n + 8) (2 * n + 10 - 1 - 1) _ (omega arith) (taken s tells rings w g)))
acked false s tells rings w g = let n : ℕ = block_of w in more (2 * n + 8) (2 * n + 10) _ (omega arith) (taken s tells rings w g)

pub answers_within : AnswersWithin
answers_within w = let n : ℕ = block_of w in let s : Style = style_of w in
    (omega arith, λ v. choice (v == 0) (2 * n + 11 - 1) _ _ tt (more (2 * n + 10) (2 * n + 11 - 1) _ (omega arith) (acked (four_by s w.has_ack) s (tells_error w) (four_by s w.has_bell) w _)))
