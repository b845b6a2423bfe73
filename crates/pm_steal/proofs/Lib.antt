mod StepLemmas
mod ReachLemmas
