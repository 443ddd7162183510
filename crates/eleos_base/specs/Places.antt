-- Where pages, sub-pages and frames lie. All are numbered over the whole machine, enclave by enclave, the pool's frames last.
-- A place of the host has the number of its sub-page.
use Rattle.std.specs.Prelude.{ℕ, ◌+◌, ◌*◌, ◌/◌, List, map, sum, slice_index, Bool, Option}
use Rattle.std.specs.List.{range_with_len}
use Rattle.eleos_base.specs.declared.memory.Addr.{Addr}
use Rattle.eleos_base.specs.declared.plan.Plan.{Plan}
use Rattle.eleos_base.specs.declared.plan.EnclavePlan.{EnclavePlan}
use Rattle.eleos_base.specs.Plans.{page_bytes, sub_bytes, subs_in}
use Rattle.eleos_base.specs.Plain.{is_in_run, zeros}
use Rattle.eleos_base.specs.Runs.{first_of_run, run_with}

module _ (k : Plan) where
  -- the pages of each enclave, and the frames that each owns at the start
  abbrev pub page_counts : List ℕ
  page_counts = map (λ (made : EnclavePlan). made.pages) k.enclaves

  -- the frames that each enclave owns at the start
  abbrev pub frame_counts : List ℕ
  frame_counts = map (λ (made : EnclavePlan). made.frames) k.enclaves

  -- all pages and all frames of the machine
  abbrev pub all_pages : ℕ
  all_pages = sum page_counts

  -- all frames of the machine, those of the pool among them
  abbrev pub all_frames : ℕ
  all_frames = sum frame_counts + k.spare

  -- the enclave of a page
  abbrev pub home_of : ℕ → Option ℕ
  home_of p = run_with page_counts p

  -- how many sub-pages a page has
  abbrev pub per_page : ℕ
  per_page = page_bytes / sub_bytes k 0

  -- the page of a sub-page, and the sub-pages of a page
  abbrev pub page_of : ℕ → ℕ
  page_of s = s / per_page

  -- the sub-pages of a page, in order
  abbrev pub subs_of : ℕ → List ℕ
  subs_of p = range_with_len (p * per_page) per_page

  -- all sub-pages of the machine
  abbrev pub all_subs : List ℕ
  all_subs = range_with_len 0 (all_pages * per_page)

  -- the first sub-page of an enclave, and how many it has
  abbrev pub first_sub : ℕ → ℕ
  first_sub e = first_of_run page_counts e * per_page

  -- how many sub-pages an enclave has
  abbrev pub subs : ℕ → ℕ
  subs e = subs_in k e (slice_index page_counts e)

  -- the sub-page is one of the enclave
  abbrev pub is_sub_of : ℕ → ℕ → Bool
  is_sub_of e s = is_in_run (first_sub e) (subs e) s

  -- the sub-page that has the address
  abbrev pub sub_of : Addr → ℕ
  sub_of at = first_sub at.enclave + at.at / sub_bytes k at.enclave

  -- the bytes of a blank sub-page
  abbrev pub blank_bytes : List ℕ
  blank_bytes = zeros (sub_bytes k 0)

-- who owns frames: an enclave, or nobody, whose frames are the pool
abbrev pub Owner : Type 0
Owner = Option ℕ
