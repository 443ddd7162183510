-- The most of what a machine has.
use Rattle.std.specs.Prelude.{ℕ, ◌^◌}

-- enclaves of a machine
abbrev pub most_enclaves : ℕ
most_enclaves = 8

-- pages of an enclave
abbrev pub most_pages : ℕ
most_pages = 1024

-- pages of a machine
abbrev pub most_pages_in_all : ℕ
most_pages_in_all = 4096

-- frames of a machine, those of the pool included
abbrev pub most_frames : ℕ
most_frames = 512

-- callers of a machine
abbrev pub most_callers : ℕ
most_callers = 8

-- how often a sub-page may be sealed
abbrev pub most_wear : ℕ
most_wear = 2 ^ 63

-- header blocks of a machine
abbrev pub most_header_blocks : ℕ
most_header_blocks = 256

-- bytes of a block
abbrev pub most_block_bytes : ℕ
most_block_bytes = 65536
