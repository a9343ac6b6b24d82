-- The bytes of an image, and a memory that it is written into (01, "The builder").
use Rattle.std.specs.Prelude.{Option, Some, None, ◌/◌, ◌++◌}
use Rattle.builder.specs.Names.{ℕ, List, ltb, length, drop, pick, Mapping, megabytes, image_length, image_word, bytes_by}

-- the bytes of the image at a base
unfoldable pub image : ℕ → List Mapping → ℕ → List ℕ
image n ms base = bytes_by (image_word n ms base) (image_length n ms / 4)

-- its length, where a memory has the room for it
abbrev pub length_in : List Mapping → ℕ → Option ℕ
length_in ms room = pick (ltb room (image_length megabytes ms)) None (Some (image_length megabytes ms))

-- a memory after the image of a list is written: the image and every later byte as it was, or all as it was where the
-- image is longer
unfoldable pub written : List Mapping → ℕ → List ℕ → List ℕ
written ms base before =
    pick (ltb (length before) (image_length megabytes ms)) before (image megabytes ms base ++ drop (image_length megabytes ms) before)
