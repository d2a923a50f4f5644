use Rattle.std.proofs.Common.{◌≡◌, ℕ, ◌*◌, ◌/◌, min, [], List, length, take, drop, slice_index_or, replicate, ap, sym, ◌∙◌, length-drop, arith}
use Rattle.std.proofs.lemmas.List.{length-append, length-replicate, length-take, length-take-le, take_all}
use Rattle.std.proofs.lemmas.Result.{IfOk-at_ok}
use Rattle.memory.specs.Buffers.{plain_words, plain_beyond, image_words}
use Rattle.memory.specs.Fronts.{length-plain}
use Rattle.memory.specs.Images.{length-image}
use Rattle.frames.specs.Frames.{unpacked_answer, unpacked_blocks, unpacked_words}
use Rattle.frames.proofs.unpack_input.Goals as goal

-- 512 items are 512 words
all_words : (items : List ℕ) → length items ≡ 512 → plain_words items ≡ items
all_words items e = take_all _ items (omega (arith, e))

zeros : (items : List ℕ) → items ≡ replicate 512 0 → length items ≡ 512
zeros items e = ap length e ∙ length-replicate {A = ℕ} 512 0

-- a table has as many words as before
as_many : (r ws : List ℕ) → length (unpacked_words r ws) ≡ length ws
as_many r ws =
    let n = 8 * unpacked_blocks r ws in
    let front : length (take n (image_words (take 4096 r))) ≡ n = length-take-le n (image_words (take 4096 r)) (omega (arith, length-image (take 4096 r), length-take 4096 r)) in
    length-append (take n (image_words (take 4096 r))) (drop n ws) ∙ omega (arith, front, length-drop n ws)

-- and as many items, since what lies behind the words is what it was
kept : (a b : List ℕ) → length (plain_words b) ≡ length (plain_words a) → plain_beyond b ≡ plain_beyond a → length b ≡ length a
kept a b words beyond =
    omega (
      arith,
      length-plain a,
      length-plain b,
      words,
      ap (λ parts. length (slice_index_or parts 0 [])) beyond,
      length-drop (8 * min (length a / 8) 64) a,
      length-drop (8 * min (length b / 8) 64) b,
    )

pub returns-clause-table : goal.returns-clause-table
returns-clause-table c =
    let before = c.filled.result.buffer.items in
    let filled = zeros before c.filled.ensures in
    let behind = IfOk-at_ok _ c.unwrap-table.ensures c.unpack.ensures.beyond in
    let words = IfOk-at_ok _ c.unwrap-table.ensures c.unpack.ensures.table in
    let size = kept before _ (ap length words ∙ as_many _ _) behind ∙ filled in
    sym (all_words _ size) ∙ words ∙ (λ i. unpacked_words (c.front-read.ensures.value i) ((all_words before filled ∙ c.filled.ensures) i))

pub returns-clause-unpacked : goal.returns-clause-unpacked
returns-clause-unpacked c =
    let before = all_words c.filled.result.buffer.items (zeros c.filled.result.buffer.items c.filled.ensures) ∙ c.filled.ensures in
    IfOk-at_ok _ c.unwrap-table.ensures c.unpack.ensures.answer ∙ (λ i. unpacked_answer (c.front-read.ensures.value i) (before i))
