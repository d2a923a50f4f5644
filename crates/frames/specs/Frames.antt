-- Words copied from one memory to another, and a report's frames unpacked into a table.
use Rattle.std.specs.Prelude.{ℕ, ◌-◌, ◌*◌, ◌/◌, min, List, ◌++◌, length, take, drop}
use Rattle.frames.specs.declared.Unpacked.{Unpacked}
use Rattle.memory.specs.Words.{whole_blocks}
use Rattle.memory.specs.Buffers.{image_words}

-- how many words are copied: all of the shorter list
abbrev pub count_of : List ℕ → List ℕ → ℕ
count_of from to = min (length from) (length to)

-- the words of `to` once those of `from` are copied over it
abbrev pub copied : List ℕ → List ℕ → List ℕ
copied from to = take (count_of from to) from ++ drop (count_of from to) to

-- the whole frames of a report that fit a table of words: at most 64, the blocks of the largest
-- memory
abbrev pub unpacked_blocks : List ℕ → List ℕ → ℕ
unpacked_blocks bytes words = min (whole_blocks (length bytes) 64) (length words / 8)

-- the table's words with those of the frames, big-endian, at their front
abbrev pub unpacked_words : List ℕ → List ℕ → List ℕ
unpacked_words bytes words =
    let n = 8 * unpacked_blocks bytes words in take n (image_words (take 4096 bytes)) ++ drop n words

-- all bytes behind the last frame that was unpacked are left over
abbrev pub unpacked_answer : List ℕ → List ℕ → Unpacked
unpacked_answer bytes words =
    record {
      blocks = unpacked_blocks bytes words;
      words = 8 * unpacked_blocks bytes words;
      trailing = length bytes - 64 * unpacked_blocks bytes words;
    }
