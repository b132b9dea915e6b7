-- What frames and steps are in the terms of the definition.
use Rattle.std.specs.Prelude.{◌-ℤ◌, List, [], ◌∷◌, ◌++◌, map, reverse}
use Rattle.oc_tree.specs.View.{block_view, expr_view, stmts_view, kind_view}
use Rattle.oc_tree.specs.Weight.{count_of}
use Rattle.oc_meaning.specs.Store.{Binding}
use Rattle.oc_steps.specs.Steps as steps
use Rattle.oc_judge.specs.Values.{age_view, value_view}
use Rattle.oc_judge.specs.declared.frames.Inside.{Inside}
use Rattle.oc_judge.specs.declared.frames.ForTurns.{ForTurns}
use Rattle.oc_judge.specs.declared.frames.WhileTurns.{WhileTurns}
use Rattle.oc_judge.specs.declared.frames.Task.{Task}
use Rattle.oc_judge.specs.declared.frames.Task.TheVariants as tasks
use Rattle.oc_judge.specs.declared.frames.Frame.{Frame}
use Rattle.oc_judge.specs.declared.frames.Frame.TheVariants as frames

abbrev pub inside_view : Inside → steps.Inside
inside_view f = record { depth = f.depth; body = block_view f.body.now }

-- the turns of a `for` that are left
abbrev pub for_frame : List Binding → ForTurns → steps.Frame
for_frame env t =
    steps.Turns (inside_view t.inside) t.name.now (count_of (t.to -ℤ t.next)) t.next
    (block_view t.body.now) env

-- the turns of a `while` that are left
abbrev pub while_frame : List Binding → WhileTurns → steps.Frame
while_frame env t =
    steps.Loop (inside_view t.inside) env t.stmt (expr_view t.condition.now) t.left
    (block_view t.body.now) (age_view t.age)

-- the condition of a turn of a `while`, with the turns behind it
abbrev pub test_frame : List Binding → WhileTurns → steps.Frame
test_frame env t =
    steps.Test (inside_view t.inside) env t.stmt (expr_view t.condition.now) t.left
    (block_view t.body.now) (age_view t.age)

-- a task with these variables, or what stands behind a statement with them
abbrev pub task_frames : List Binding → Task → List steps.Frame
task_frames env (tasks.Rest f ss) = steps.Rest (inside_view f) env (stmts_view ss.now) ∷ []
task_frames env (tasks.Behind f n is u r ss) =
    steps.Done is n (age_view u) ∷ steps.Close r
    ∷ steps.Rest (inside_view f) env (stmts_view ss.now) ∷ []
task_frames env (tasks.Use f n u k) =
    steps.Use (inside_view f) env n (age_view u) (kind_view k.now) ∷ []
task_frames env (tasks.Work f n k) = steps.Work (inside_view f) env n (kind_view k.now) ∷ []
task_frames env (tasks.Take n k) = steps.Take env n (kind_view k.now) ∷ []
task_frames env (tasks.Turns t) = for_frame env t ∷ []
task_frames env (tasks.Loop t) = while_frame env t ∷ []
task_frames env (tasks.Test t) = test_frame env t ∷ []

abbrev pub frame_view : Frame → List steps.Frame
frame_view (frames.Scoped env t) = task_frames env.value t
frame_view (frames.Close r) = steps.Close r ∷ []
frame_view (frames.Leave n) = steps.Leave n ∷ []
frame_view (frames.Back v r) = steps.Back (value_view v) r ∷ []

abbrev pub joined : List (List steps.Frame) → List steps.Frame
joined [] = []
joined (fs ∷ more) = fs ++ joined more

-- the newest first
abbrev pub frames_view : List Frame → List steps.Frame
frames_view fs = joined (reverse (map frame_view fs))
