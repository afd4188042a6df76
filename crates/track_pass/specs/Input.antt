-- What a track is made from: anchors and links in lent columns. Definitions only.
use Rattle.std.specs.Prelude.{List, ℕ, ◌+◌, ◌*◌, get_or, Float}
use Rattle.std.specs.Float.{nan}
use Rattle.lists.specs.Memory.{before, LentNumbers, LentFloats}
use Rattle.track_pass.specs.declared.measured.Measured.{Measured as LentMeasured}
use Rattle.track_pass.specs.declared.measured.Track.{Track as LentTrack}

-- Anchors, or links: how many there are, and of each the epoch index, three floats of position (a link's change in position), and three sigmas.
pub record Measured : Type 0 where
  pub count : ℕ
  pub index : List ℕ
  pub value : List Float
  pub sigma : List Float

-- a trajectory of n epochs, with what was measured of it; a link starts at its index and ends at the next
pub record Trajectory : Type 0 where
  pub n : ℕ
  pub anchors : Measured
  pub links : Measured

abbrev pub measured : ℕ → List ℕ → List Float → List Float → Measured
measured count index value sigma = record { count = count; index = index; value = value; sigma = sigma }

abbrev pub trajectory : ℕ → Measured → Measured → Trajectory
trajectory n anchors links = record { n = n; anchors = anchors; links = links }

-- ---- what a call is lent

-- anchors, or links, that a call is lent
abbrev pub lent_measured : ℕ → LentNumbers → LentFloats → LentFloats → Measured
lent_measured count index value sigma = measured count (before index) (before value) (before sigma)

-- the trajectory of n epochs that a call is lent: its anchors, then its links
abbrev pub lent_track : ℕ → ℕ → LentNumbers → LentFloats → LentFloats → ℕ → LentNumbers → LentFloats → LentFloats → Trajectory
lent_track n anchors epoch position sigma links from change spread =
    trajectory n (lent_measured anchors epoch position sigma) (lent_measured links from change spread)

-- the same of the columns and the track that a call is handed
abbrev pub measured_in : LentMeasured → Measured
measured_in m = measured m.count m.epoch.now m.value.now m.sigma.now

abbrev pub track_in : LentTrack → Trajectory
track_in t = trajectory t.epochs (measured_in t.anchors) (measured_in t.links)

-- ---- its measurements

-- the epoch index of measurement j, and its value and sigma on axis t: 0 is x, 1 is y, 2 is z
abbrev pub index_at : Measured → ℕ → ℕ
index_at m j = get_or m.index j 0

abbrev pub value_at : Measured → ℕ → ℕ → Float
value_at m t j = get_or m.value (j * 3 + t) nan

abbrev pub sigma_at : Measured → ℕ → ℕ → Float
sigma_at m t j = get_or m.sigma (j * 3 + t) nan

-- of the anchors, the position of the first: the fit counts from there
abbrev pub track_origin : Measured → ℕ → Float
track_origin m t = value_at m t 0

-- the floats of work that a track needs
abbrev pub work_need : Trajectory → ℕ
work_need p = p.n * 9 + p.anchors.count + p.links.count
