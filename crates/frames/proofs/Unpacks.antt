-- Frames copied through a window over the table: what the table holds then.
use Rattle.std.proofs.Common.{◌≡◌, ℕ, ◌+◌, ◌*◌, List, ◌++◌, length, take, drop, sym, ap, ◌∙◌, append-nil, arith}
use Rattle.std.proofs.lemmas.List.{drop_all, length-take}
use Rattle.std.proofs.lemmas.Grind.{common_steps}
use Rattle.memory.specs.Words.{Whole, whole_blocks}
use Rattle.memory.specs.Buffers.{image_words}
use Rattle.memory.specs.Windows.{start_of, blocks_of, window_words}
use Rattle.memory.specs.Images.{length-image}
use Rattle.memory.specs.WindowsLemmas.{length-window, window_rejoined}
use Rattle.frames.specs.Frames.{count_of, copied, unpacked_blocks, unpacked_words}

-- as many frames as the used bytes have are those of the whole report
pub frames_used : (bytes : List ℕ) → whole_blocks (length (take 4096 bytes)) 64 ≡ whole_blocks (length bytes) 64
frames_used bytes = omega (arith, length-take 4096 bytes)

module _ (bytes ws : List ℕ) (whole : Whole ws) where
  n : ℕ
  n = unpacked_blocks bytes ws

  frames : List ℕ
  frames = image_words (take 4096 bytes)

  blocks : ℕ
  blocks = whole_blocks (length bytes) 64

  length-frames : length frames ≡ 8 * blocks
  unfolding frames blocks
  length-frames = omega (arith, length-image (take 4096 bytes), frames_used bytes)

  blocks_is : blocks_of ws 0 blocks ≡ n
  unfolding n blocks
  blocks_is = omega arith

  pub count_is : (count : ℕ) → 8 * count ≡ length (image_words (take 4096 bytes)) → count_of (image_words (take 4096 bytes)) (window_words ws 0 count) ≡ 8 * unpacked_blocks bytes ws
  unfolding frames blocks
  count_is count e = omega (arith, e, length-frames, length-window ws whole 0 count)

  module _ (first count : ℕ) (from : first ≡ 0) (many : 8 * count ≡ length (image_words (take 4096 bytes))) where
    count_blocks : count ≡ blocks
    unfolding frames blocks
    count_blocks = omega (arith, many, length-frames)

    -- the window is filled whole
    filled : copied frames (window_words ws 0 blocks) ≡ take (8 * n) frames
    unfolding n frames blocks
    filled =
        ap (λ k. take k frames ++ drop k (window_words ws 0 blocks)) (count_is blocks (omega (arith, length-frames)))
        ∙ ap (λ l. take (8 * n) frames ++ l) (drop_all (8 * n) _ (omega (arith, blocks_is, length-window ws whole 0 blocks)))
        ∙ append-nil _

    pub unpacked : (after : List ℕ) (first' count' : ℕ) → window_words after first' count' ≡ copied (image_words (take 4096 bytes)) (window_words ws first count) → take (8 * start_of after first') after ≡ take (8 * start_of ws first) ws → drop (8 * (start_of after first' + blocks_of after first' count')) after ≡ drop (8 * (start_of ws first + blocks_of ws first count)) ws → after ≡ unpacked_words bytes ws
    unfolding n frames blocks
    unpacked after first' count' inside before behind =
        let here = inside ∙ (λ i. copied frames (window_words ws (from i) (count_blocks i))) ∙ filled in
        let none : 8 * start_of ws first ≡ 0 = omega (arith, from) in
        let to_end : 8 * (start_of ws first + blocks_of ws first count) ≡ 8 * n = omega (arith, from, blocks_is, count_blocks) in
        sym (window_rejoined after first' count')
        ∙ (λ i. (before ∙ ap (λ k. take k ws) none) i ++ (here i ++ (behind ∙ ap (λ k. drop k ws) to_end) i))

-- the same, of the frames and the window as `unpack` makes them
module _ (bytes ws items below : List ℕ) (whole : Whole ws) (first count : ℕ) (used : items ≡ take 4096 bytes) (table : below ≡ ws) (from : first ≡ 0) (many : 8 * count ≡ length (image_words items)) where
  many_used : 8 * count ≡ length (image_words (take 4096 bytes))
  many_used = many ∙ ap (λ l. length (image_words l)) used

  pub counted : count_of (image_words items) (window_words below first count) ≡ 8 * unpacked_blocks bytes ws
  counted = (λ i. count_of (image_words (used i)) (window_words (table i) (from i) count)) ∙ count_is bytes ws whole count many_used

  pub unpacked_so : (after : List ℕ) (first' count' : ℕ) → window_words after first' count' ≡ copied (image_words items) (window_words below first count) → take (8 * start_of after first') after ≡ take (8 * start_of below first) below → drop (8 * (start_of after first' + blocks_of after first' count')) after ≡ drop (8 * (start_of below first + blocks_of below first count)) below → after ≡ unpacked_words bytes ws
  unpacked_so after first' count' inside before behind =
      unpacked bytes ws whole first count from many_used after first' count'
      (inside ∙ (λ i. copied (image_words (used i)) (window_words (table i) first count)))
      (before ∙ (λ i. take (8 * start_of (table i) first) (table i)))
      (behind ∙ (λ i. drop (8 * (start_of (table i) first + blocks_of (table i) first count)) (table i)))

pub ruleset unpacking = (length-image, frames_used, common_steps)
