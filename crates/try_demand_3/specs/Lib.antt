pub mod Lesson
pub mod LessonLaws
